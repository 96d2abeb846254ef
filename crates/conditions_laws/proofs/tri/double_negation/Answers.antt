use Rattle.conditions_laws.proofs.Tables.{not-not}
use Rattle.conditions_laws.proofs.tri.double_negation.Goals as goal

pub returns : goal.returns
returns c = not-not
