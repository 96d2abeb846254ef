use Rattle.page_laws.proofs.DocumentAfterInsert.{new-parent}
use Rattle.page_laws.proofs.documents.inserted_parent.Goals as goal

pub returns : goal.returns
returns c = new-parent
