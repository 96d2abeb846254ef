-- Those up to one were taken.
use Rattle.std.proofs.Common.{drop}
use Rattle.cascade_core.specs.AppliedViews.{all_placed}
use Rattle.cascade_core.specs.Views.{all_kept_view}
use Rattle.cascade_core.specs.inner.BothTables.{Reaches}
use Rattle.cascade_core.proofs.winners.take_all.Given as goal

abbrev pub invariant-loop-one : goal.invariant-loop-one
invariant-loop-one l =
    Reaches l.fn.tables l.tables (all_placed l.place (all_kept_view l.fn.kept))
    (all_placed l.place (all_kept_view (drop l.one-index l.kept)))
