use Rattle.custom_laws.proofs.Replaced.{none-left}
use Rattle.custom_laws.proofs.substitution.none_left.Goals as goal

pub returns : goal.returns
returns c = none-left
