use Rattle.rules_laws.proofs.RuleListOf.{list-of}
use Rattle.rules_laws.proofs.rules.exist.Goals as goal

pub returns : goal.returns
returns c = list-of
