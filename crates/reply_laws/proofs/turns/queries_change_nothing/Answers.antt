use Rattle.reply_laws.proofs.IsAnswered.{turn-query}
use Rattle.reply_laws.proofs.turns.queries_change_nothing.Goals as goal

pub returns : goal.returns
returns c = turn-query
