use Rattle.conditions_laws.proofs.Tables.{not-or}
use Rattle.conditions_laws.proofs.tri.not_or.Goals as goal

pub returns : goal.returns
returns c = not-or
