-- The properties so far, and those of the sides after them, are the properties of all.
use Rattle.std.proofs.Common.{◌≡◌, ◌++◌, drop}
use Rattle.value_model.specs.Shorthands.{border_longhands}
use Rattle.prop_table.specs.inner.ShorthandViews.{borders_view}
use Rattle.prop_table.proofs.longhands.border_longhands.Given as goal

abbrev pub invariant-loop-side : goal.invariant-loop-side
invariant-loop-side l =
    l.props ++ border_longhands (borders_view (drop l.side-index l.sides))
    ≡ border_longhands (borders_view l.fn.sides)
