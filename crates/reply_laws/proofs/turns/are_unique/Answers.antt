use Rattle.reply_laws.proofs.IsAnswered.{turn-one}
use Rattle.reply_laws.proofs.turns.are_unique.Goals as goal

pub returns : goal.returns
returns c = turn-one
