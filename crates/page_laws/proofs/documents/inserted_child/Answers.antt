use Rattle.page_laws.proofs.DocumentAfterInsert.{new-list}
use Rattle.page_laws.proofs.documents.inserted_child.Goals as goal

pub returns : goal.returns
returns c = new-list
