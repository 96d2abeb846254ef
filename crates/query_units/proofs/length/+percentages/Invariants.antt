-- No percentage was found, and those of the rest are those of all.
use Rattle.std.proofs.Common.{◌≡◌, drop}
use Rattle.std.specs.List.{list_any}
use Rattle.value_model.specs.Calculations.{all_leaves, is_percentage}
use Rattle.query_units.specs.Views.{lengths_view}
use Rattle.query_units.proofs.length.+percentages.Given as goal

abbrev pub invariant-any_percentage-loop-other : goal.invariant-any_percentage-loop-other
invariant-any_percentage-loop-other l =
    list_any is_percentage (all_leaves (lengths_view (drop l.other-index l.other-items)))
    ≡ list_any is_percentage (all_leaves (lengths_view l.fn.others))
