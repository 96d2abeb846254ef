use Rattle.page_laws.proofs.TreeAfterRemove.{remove-order}
use Rattle.page_laws.proofs.remove.document_order.Goals as goal

pub returns : goal.returns
returns c = remove-order
