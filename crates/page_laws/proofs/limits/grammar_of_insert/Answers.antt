use Rattle.page_laws.proofs.BrokenLimits.{grammar-limits}
use Rattle.page_laws.proofs.limits.grammar_of_insert.Goals as goal

pub returns : goal.returns
returns c = grammar-limits
