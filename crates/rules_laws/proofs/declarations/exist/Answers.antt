use Rattle.rules_laws.proofs.DeclarationListOf.{list-of}
use Rattle.rules_laws.proofs.declarations.exist.Goals as goal

pub returns : goal.returns
returns c = list-of
