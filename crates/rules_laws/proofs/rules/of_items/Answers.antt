use Rattle.rules_laws.proofs.RulesOfItems.{rules-items}
use Rattle.rules_laws.proofs.rules.of_items.Goals as goal

pub returns : goal.returns
returns c = rules-items
