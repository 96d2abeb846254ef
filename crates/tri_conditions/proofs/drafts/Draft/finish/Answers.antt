use Rattle.std.proofs.Common.{◌∙◌, ap, sym, map, Some}
use Rattle.tri_conditions.specs.Views.{condition_view}
use Rattle.tri_conditions.proofs.ConditionRests.{joined_with-all}
use Rattle.tri_conditions.proofs.drafts.Draft.finish.Goals as goal

pub returns-in-Parts : goal.returns-in-Parts
returns-in-Parts g c =
    rw c.in-Parts.is
    (ap Some c.condition.ensures
    ∙ sym (joined_with-all c.in-Parts.join (map condition_view c.in-Parts.parts)))
