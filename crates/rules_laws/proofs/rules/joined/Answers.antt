use Rattle.rules_laws.proofs.RulesOfItems.{rules-joined}
use Rattle.rules_laws.proofs.rules.joined.Goals as goal

pub returns : goal.returns
returns c = rules-joined
