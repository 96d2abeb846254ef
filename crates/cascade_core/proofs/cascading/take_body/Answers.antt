use Rattle.std.proofs.Common.{OnOk, List, subst}
use Rattle.cascade_core.specs.AppliedViews.{all_placed}
use Rattle.cascade_core.specs.Views.{all_kept_view}
use Rattle.cascade_core.specs.declared.kept.Kept.{Kept}
use Rattle.cascade_core.specs.inner.BothTables.{Takes}
use Rattle.cascade_core.specs.inner.Matches.{place_of}
use Rattle.cascade_core.proofs.cascading.take_body.Goals as goal

pub returns : goal.returns
returns c =
    subst (λ (ks : List Kept). OnOk c.take_all.result (Takes c.args.tables.now c.take_all.new.tables
    (all_placed (place_of c.args.body.now c.args.specificity) (all_kept_view ks))))
    c.as_slice.ensures c.take_all.ensures
