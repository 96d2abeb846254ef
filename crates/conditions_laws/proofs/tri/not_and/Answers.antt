use Rattle.conditions_laws.proofs.Tables.{not-and}
use Rattle.conditions_laws.proofs.tri.not_and.Goals as goal

pub returns : goal.returns
returns c = not-and
