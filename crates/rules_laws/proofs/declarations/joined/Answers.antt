use Rattle.rules_laws.proofs.DeclarationsOfItems.{declarations-joined}
use Rattle.rules_laws.proofs.declarations.joined.Goals as goal

pub returns : goal.returns
returns c = declarations-joined
