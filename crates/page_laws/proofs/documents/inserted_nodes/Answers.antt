use Rattle.page_laws.proofs.DocumentAfterInsert.{new-nodes}
use Rattle.page_laws.proofs.documents.inserted_nodes.Goals as goal

pub returns : goal.returns
returns c = new-nodes
