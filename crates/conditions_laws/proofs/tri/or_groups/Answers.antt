use Rattle.conditions_laws.proofs.Tables.{or-groups}
use Rattle.conditions_laws.proofs.tri.or_groups.Goals as goal

pub returns : goal.returns
returns c = or-groups
