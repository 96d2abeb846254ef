use Rattle.page_laws.proofs.TreeAfterInsert.{insert-order}
use Rattle.page_laws.proofs.insert.document_order.Goals as goal

pub returns : goal.returns
returns c = insert-order
