use Rattle.page_laws.proofs.DocumentAfterInsert.{well-inserted}
use Rattle.page_laws.proofs.documents.ids_after_insert.Goals as goal

pub returns : goal.returns
returns c = well-inserted
