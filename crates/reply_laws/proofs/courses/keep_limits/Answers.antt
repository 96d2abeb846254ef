use Rattle.reply_laws.proofs.StateKeepsLimits.{kept-turn}
use Rattle.reply_laws.proofs.courses.keep_limits.Goals as goal

pub returns-clause-each_turn : goal.returns-clause-each_turn
returns-clause-each_turn c = kept-turn
