-- What was valued, with the values of the rest, gives the value of all.
use Rattle.std.proofs.Common.{◌≡◌, drop}
use Rattle.std.specs.Int.{int_min, int_max}
use Rattle.std.specs.List.{fold}
use Rattle.value_model.specs.Calculations.{leaf_value, values_by}
use Rattle.query_units.specs.Views.{all_computed_view}
use Rattle.query_units.proofs.computed.+used.Given as goal

abbrev pub invariant-least_used-loop-other : goal.invariant-least_used-loop-other
invariant-least_used-loop-other l =
    fold int_min l.value
    (values_by (leaf_value l.fn.base) (all_computed_view (drop l.other-index l.other-items)))
    ≡ fold int_min l.fn.first (values_by (leaf_value l.fn.base) (all_computed_view l.fn.others))

abbrev pub invariant-greatest_used-loop-other : goal.invariant-greatest_used-loop-other
invariant-greatest_used-loop-other l =
    fold int_max l.value
    (values_by (leaf_value l.fn.base) (all_computed_view (drop l.other-index l.other-items)))
    ≡ fold int_max l.fn.first (values_by (leaf_value l.fn.base) (all_computed_view l.fn.others))
