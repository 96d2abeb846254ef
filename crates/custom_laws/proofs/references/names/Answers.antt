use Rattle.custom_laws.proofs.WrittenReferences.{names-of-one}
use Rattle.custom_laws.proofs.references.names.Goals as goal

pub returns : goal.returns
returns c = names-of-one
