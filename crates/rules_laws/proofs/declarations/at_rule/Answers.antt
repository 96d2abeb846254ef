use Rattle.rules_laws.proofs.DeclarationsOfItems.{dropped-at_rule}
use Rattle.rules_laws.proofs.declarations.at_rule.Goals as goal

pub returns : goal.returns
returns c = dropped-at_rule
