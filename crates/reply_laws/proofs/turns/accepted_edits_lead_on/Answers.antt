use Rattle.reply_laws.proofs.IsAnswered.{turn-accepted}
use Rattle.reply_model.specs.Replies.{IsEditReply}
use Rattle.request_model.specs.Requests.{edit}
use Rattle.reply_laws.proofs.turns.accepted_edits_lead_on.Goals as goal

pub returns : goal.returns
returns c = λ setting from to e own reply none h.
    let edited : IsEditReply setting from e own reply to = turn-accepted setting from to (edit e) own reply none h in
    (edited.state, edited.last)
