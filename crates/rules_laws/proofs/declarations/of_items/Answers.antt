use Rattle.rules_laws.proofs.DeclarationsOfItems.{declarations-all}
use Rattle.rules_laws.proofs.declarations.of_items.Goals as goal

pub returns : goal.returns
returns c = declarations-all
