use Rattle.conditions_laws.proofs.Tables.{and-order}
use Rattle.conditions_laws.proofs.tri.and_order.Goals as goal

pub returns : goal.returns
returns c = and-order
