use Rattle.reply_laws.proofs.IsAnswered.{turn-some}
use Rattle.reply_laws.proofs.turns.exist.Goals as goal

pub returns : goal.returns
returns c = turn-some
