-- What was valued, with the values of the rest, gives the value of all.
use Rattle.std.proofs.Common.{◌≡◌, drop}
use Rattle.std.specs.Int.{int_min, int_max}
use Rattle.std.specs.List.{fold}
use Rattle.value_model.specs.Calculations.{literal_value, values_by}
use Rattle.query_units.specs.Views.{lengths_view}
use Rattle.query_units.proofs.length.+values.Given as goal

abbrev pub invariant-least-loop-other : goal.invariant-least-loop-other
invariant-least-loop-other l =
    fold int_min l.value
    (values_by (literal_value l.fn.b l.fn.base) (lengths_view (drop l.other-index l.other-items)))
    ≡ fold int_min l.fn.first (values_by (literal_value l.fn.b l.fn.base) (lengths_view l.fn.others))

abbrev pub invariant-greatest-loop-other : goal.invariant-greatest-loop-other
invariant-greatest-loop-other l =
    fold int_max l.value
    (values_by (literal_value l.fn.b l.fn.base) (lengths_view (drop l.other-index l.other-items)))
    ≡ fold int_max l.fn.first (values_by (literal_value l.fn.b l.fn.base) (lengths_view l.fn.others))
