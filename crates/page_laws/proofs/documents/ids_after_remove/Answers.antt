use Rattle.page_laws.proofs.DocumentAfterRemove.{well-removed}
use Rattle.page_laws.proofs.documents.ids_after_remove.Goals as goal

pub returns : goal.returns
returns c = well-removed
