use Rattle.reply_laws.proofs.AreReplies.{replies-one}
use Rattle.reply_model.specs.Replies.{start}
use Rattle.reply_laws.proofs.scripts.have_one_text.Goals as goal

pub returns : goal.returns
returns c = λ setting lines. replies-one setting lines start
