use Rattle.reply_laws.proofs.StateHasGivenIds.{given-turn}
use Rattle.reply_laws.proofs.courses.keep_given_ids.Goals as goal

pub returns-clause-each_turn : goal.returns-clause-each_turn
returns-clause-each_turn c = given-turn
