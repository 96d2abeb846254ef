-- What was kept, and then what is left, is all.
use Rattle.std.proofs.Common.{◌≡◌, ◌++◌, map, drop}
use Rattle.cascade_core.specs.Views.{all_kept_view}
use Rattle.cascade_model.specs.Kept.{kept_longhand}
use Rattle.prop_table.specs.Views.{pairs_view}
use Rattle.cascade_core.proofs.kept.keep_longhands.Given as goal

abbrev pub invariant-loop-longhand : goal.invariant-loop-longhand
invariant-loop-longhand l =
    all_kept_view l.fn.kept ++ map (kept_longhand l.important) (pairs_view l.fn.longhands)
    ≡ all_kept_view l.kept
    ++ map (kept_longhand l.important) (pairs_view (drop l.longhand-index l.longhand-items))
