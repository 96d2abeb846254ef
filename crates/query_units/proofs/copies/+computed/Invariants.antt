-- The copies, with the rest, are all.
use Rattle.std.proofs.Common.{◌≡◌, drop, ◌++◌}
use Rattle.query_units.proofs.copies.+computed.Given as goal

abbrev pub invariant-copy_all_computed-loop-c : goal.invariant-copy_all_computed-loop-c
invariant-copy_all_computed-loop-c l = l.copies ++ drop l.c-index l.c-items ≡ l.fn.cs
