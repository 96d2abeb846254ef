use Rattle.conditions_laws.proofs.Tables.{and-groups}
use Rattle.conditions_laws.proofs.tri.and_groups.Goals as goal

pub returns : goal.returns
returns c = and-groups
