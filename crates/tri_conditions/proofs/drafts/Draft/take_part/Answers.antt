use Rattle.std.proofs.Common.{map}
use Rattle.std.proofs.lemmas.List.{map-append}
use Rattle.conditions_model.specs.ConditionWords.{more_parts}
use Rattle.tri_conditions.specs.Views.{condition_view}
use Rattle.tri_conditions.specs.inner.Drafts.{keyword_of}
use Rattle.tri_conditions.proofs.ConditionRests.{joined_with-more}
use Rattle.tri_conditions.proofs.drafts.Draft.take_part.Goals as goal

pub returns-in-Open : goal.returns-in-Open
returns-in-Open g c = λ ws.
    rw (c.in_ok-push-in-Open.ensures.ok, map-append, c.in-Open.is)
    (joined_with-more c.in-Open.join (map condition_view c.in-Open.parts) (condition_view c.args.c)
    (more_parts (keyword_of c.in-Open.join) ws))
