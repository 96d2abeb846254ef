use Rattle.reply_laws.proofs.IsAnswered.{distinct-turn}
use Rattle.reply_laws.proofs.turns.log_each_pair_once.Goals as goal

pub returns : goal.returns
returns c = distinct-turn
