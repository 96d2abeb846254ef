use Rattle.custom_laws.proofs.Replacements.{same-substituted}
use Rattle.custom_laws.proofs.substitution.by_names.Goals as goal

pub returns : goal.returns
returns c = same-substituted
