-- What was kept, and then what is left, is all.
use Rattle.std.proofs.Common.{◌≡◌, ◌++◌, map, drop}
use Rattle.cascade_core.specs.Views.{all_kept_view, kept_for, kept_value_view}
use Rattle.cascade_core.proofs.kept.keep_for_each.Given as goal

abbrev pub invariant-loop-prop : goal.invariant-loop-prop
invariant-loop-prop l =
    all_kept_view l.fn.kept ++ map (λ p. kept_for (kept_value_view l.value.value) l.important p) l.fn.props
    ≡ all_kept_view l.kept
    ++ map (λ p. kept_for (kept_value_view l.value.value) l.important p) (drop l.prop-index l.props)
