use Rattle.custom_laws.proofs.WrittenReferences.{read-as-written}
use Rattle.custom_laws.proofs.references.form.Goals as goal

pub returns : goal.returns
returns c = read-as-written
