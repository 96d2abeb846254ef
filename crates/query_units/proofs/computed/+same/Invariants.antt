-- So far the two lists are one, and what is left tells the rest.
use Rattle.std.proofs.Common.{◌≡◌, drop}
use Rattle.query_units.specs.Views.{all_computed_view}
use Rattle.query_units.specs.inner.Sameness.{are_same}
use Rattle.query_units.proofs.computed.+same.Given as goal

abbrev pub invariant-are_same-loop-x : goal.invariant-are_same-loop-x
invariant-are_same-loop-x l =
    are_same (all_computed_view (drop l.x-index l.x-items)) (all_computed_view l.rest)
    ≡ are_same (all_computed_view l.fn.xs) (all_computed_view l.fn.ys)
