use Rattle.layout_laws.proofs.ConsistentPages.{page-keys}
use Rattle.layout_laws.proofs.page_assignments.stand_in_document_order.Goals as goal

pub returns : goal.returns
returns c = page-keys
