use Rattle.conditions_laws.proofs.Tables.{or-order}
use Rattle.conditions_laws.proofs.tri.or_order.Goals as goal

pub returns : goal.returns
returns c = or-order
