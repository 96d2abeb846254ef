use Rattle.std.proofs.Common.{◌≡◌, drop}
use Rattle.std.specs.Int.{int_min}
use Rattle.std.specs.List.{fold}
use Rattle.query_units.proofs.functions.least.Given as goal

abbrev pub invariant-loop-other : goal.invariant-loop-other
invariant-loop-other l =
    fold int_min l.value (drop l.other-index l.others) ≡ fold int_min l.fn.first l.fn.others
