use Rattle.custom_laws.proofs.Replacements.{kept-all}
use Rattle.custom_laws.proofs.substitution.nothing_replaced.Goals as goal

pub returns : goal.returns
returns c = kept-all
