use Rattle.reply_laws.proofs.IsAnswered.{turn-refused}
use Rattle.reply_laws.proofs.turns.refused_change_nothing.Goals as goal

pub returns : goal.returns
returns c = turn-refused
