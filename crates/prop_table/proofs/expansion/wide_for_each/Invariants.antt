-- The values so far, and those of the properties after them, are the values of all.
use Rattle.std.proofs.Common.{◌≡◌, ◌++◌, drop}
use Rattle.prop_table.specs.Views.{pairs_view}
use Rattle.prop_table.specs.inner.ShorthandViews.{wide_longhands}
use Rattle.prop_table.proofs.expansion.wide_for_each.Given as goal

abbrev pub invariant-loop-prop : goal.invariant-loop-prop
invariant-loop-prop l =
    pairs_view l.pairs ++ wide_longhands l.wide (drop l.prop-index l.props) ≡ wide_longhands l.fn.wide l.fn.props
