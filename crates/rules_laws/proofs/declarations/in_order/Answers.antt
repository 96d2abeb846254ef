use Rattle.rules_laws.proofs.InOrder.{order-declarations}
use Rattle.rules_laws.proofs.declarations.in_order.Goals as goal

pub returns : goal.returns
returns c = order-declarations
