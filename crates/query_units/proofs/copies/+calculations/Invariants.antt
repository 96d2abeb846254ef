-- The copies, with the rest, are all.
use Rattle.std.proofs.Common.{◌≡◌, drop, ◌++◌}
use Rattle.query_units.proofs.copies.+calculations.Given as goal

abbrev pub invariant-copy_calculations-loop-l : goal.invariant-copy_calculations-loop-l
invariant-copy_calculations-loop-l l = l.copies ++ drop l.l-index l.l-items ≡ l.fn.ls
