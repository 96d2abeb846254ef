use Rattle.page_laws.proofs.DocumentAfterInsert.{new-tree}
use Rattle.page_laws.proofs.documents.inserted_tree.Goals as goal

pub returns : goal.returns
returns c = new-tree
