use Rattle.reply_laws.proofs.IsAnswered.{turn-dump-text}
use Rattle.reply_laws.proofs.turns.dumps_show_the_assignment.Goals as goal

pub returns : goal.returns
returns c = turn-dump-text
