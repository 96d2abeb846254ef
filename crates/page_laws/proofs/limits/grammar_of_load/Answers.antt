use Rattle.page_laws.proofs.BrokenLimits.{load-grammar}
use Rattle.page_laws.proofs.limits.grammar_of_load.Goals as goal

pub returns : goal.returns
returns c = load-grammar
