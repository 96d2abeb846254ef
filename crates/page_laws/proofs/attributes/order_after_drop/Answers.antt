use Rattle.page_laws.proofs.AttributesInOrder.{order-without}
use Rattle.page_laws.proofs.attributes.order_after_drop.Goals as goal

pub returns : goal.returns
returns c = order-without
