use Rattle.rules_laws.proofs.DeclarationsOfItems.{dropped-bad}
use Rattle.rules_laws.proofs.declarations.bad_declaration.Goals as goal

pub returns : goal.returns
returns c = dropped-bad
