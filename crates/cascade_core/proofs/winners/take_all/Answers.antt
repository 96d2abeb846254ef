use Rattle.std.proofs.Common.{◌+◌, subst, drop, List, [], ◌∷◌}
use Rattle.std.proofs.lemmas.List.{drop_all}
use Rattle.cascade_core.specs.AppliedViews.{all_placed, placed}
use Rattle.cascade_core.specs.Views.{all_kept_view, kept_view}
use Rattle.cascade_core.specs.declared.kept.Kept.{Kept}
use Rattle.cascade_core.specs.inner.BothTables.{Reaches}
use Rattle.cascade_core.proofs.AreWinners.{reaches-further, reaches-end, placed-from}
use Rattle.cascade_core.proofs.winners.take_all.Goals as goal

pub loop-one-preserved : goal.loop-one-preserved
loop-one-preserved c =
    reaches-further c.args.tables.now c.loop-one.tables c.take.new.tables
    (all_placed c.args.place (all_kept_view c.args.kept.now))
    (all_placed c.args.place (all_kept_view (drop c.loop-one.one-index c.args.kept.now)))
    (all_placed c.args.place (all_kept_view (drop (c.loop-one.one-index + 1) c.args.kept.now)))
    (placed c.args.place (kept_view c.one-item.result) ∷ []) c.loop-one.invariant c.in_ok-take.ensures
    (placed-from c.args.place c.args.kept.now c.loop-one.one-index c.one-item.result c.loop-one-test.true c.one-item.is)

pub returns : goal.returns
returns c =
    reaches-end c.args.tables.now c.loop-one.tables (all_placed c.args.place (all_kept_view c.args.kept.now))
    (subst (λ (ks : List Kept). Reaches c.args.tables.now c.loop-one.tables
    (all_placed c.args.place (all_kept_view c.args.kept.now)) (all_placed c.args.place (all_kept_view ks)))
    (drop_all c.loop-one.one-index c.args.kept.now c.loop-one-test.false) c.loop-one.invariant)
