use Rattle.custom_laws.proofs.Replacements.{reference-replaced}
use Rattle.custom_laws.proofs.substitution.one_reference.Goals as goal

pub returns : goal.returns
returns c = reference-replaced
