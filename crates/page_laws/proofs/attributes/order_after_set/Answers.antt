use Rattle.page_laws.proofs.AttributesInOrder.{order-with}
use Rattle.page_laws.proofs.attributes.order_after_set.Goals as goal

pub returns : goal.returns
returns c = order-with
