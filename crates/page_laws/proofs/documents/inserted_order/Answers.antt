use Rattle.page_laws.proofs.DocumentAfterInsert.{document-order}
use Rattle.page_laws.proofs.documents.inserted_order.Goals as goal

pub returns : goal.returns
returns c = document-order
