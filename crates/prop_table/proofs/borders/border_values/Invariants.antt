-- The values so far, and those of the sides after them, are the values of all sides.
use Rattle.std.proofs.Common.{◌≡◌, ◌++◌, drop}
use Rattle.prop_table.specs.Views.{pairs_view}
use Rattle.prop_table.specs.inner.BorderViews.{side_values, values_view}
use Rattle.prop_table.specs.inner.ShorthandViews.{borders_view}
use Rattle.prop_table.proofs.borders.border_values.Given as goal

abbrev pub invariant-loop-side : goal.invariant-loop-side
invariant-loop-side l =
    pairs_view l.pairs ++ side_values (borders_view (drop l.side-index l.sides)) (values_view l.values)
    ≡ side_values (borders_view l.fn.sides) (values_view l.fn.values)
