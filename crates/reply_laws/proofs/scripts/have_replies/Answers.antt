use Rattle.reply_laws.proofs.AreReplies.{replies-some}
use Rattle.reply_model.specs.Replies.{start}
use Rattle.reply_laws.proofs.scripts.have_replies.Goals as goal

pub returns : goal.returns
returns c = λ setting lines. replies-some setting lines start tt
