use Rattle.page_laws.proofs.DocumentAfterInsert.{well-loaded}
use Rattle.page_laws.proofs.documents.ids_after_load.Goals as goal

pub returns : goal.returns
returns c = well-loaded
