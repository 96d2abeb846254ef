use Rattle.rules_laws.proofs.InOrder.{order-rules}
use Rattle.rules_laws.proofs.rules.in_order.Goals as goal

pub returns : goal.returns
returns c = order-rules
