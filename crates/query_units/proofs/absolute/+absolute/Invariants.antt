-- What was computed, in front of what the rest computes to, is what all compute to.
use Rattle.std.proofs.Common.{◌≡◌, drop, map}
use Rattle.value_model.specs.Calculations.{all_with_leaves, computed_leaf}
use Rattle.query_units.specs.Views.{computed_view, lengths_view}
use Rattle.query_units.specs.inner.Fronts.{in_front}
use Rattle.query_units.proofs.absolute.+absolute.Given as goal

abbrev pub invariant-all_with_values-loop-l : goal.invariant-all_with_values-loop-l
invariant-all_with_values-loop-l l =
    in_front (map computed_view l.all)
    (all_with_leaves (computed_leaf l.fn.b) (lengths_view (drop l.l-index l.l-items)))
    ≡ all_with_leaves (computed_leaf l.fn.b) (lengths_view l.fn.ls)
