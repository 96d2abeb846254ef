-- The copies so far, and the names after them, are the names.
use Rattle.std.proofs.Common.{◌≡◌, ◌++◌, drop}
use Rattle.prop_table.proofs.name_lists.copy_names.Given as goal

abbrev pub invariant-loop-name : goal.invariant-loop-name
invariant-loop-name l = l.copy ++ drop l.name-index l.name-items ≡ l.fn.names
