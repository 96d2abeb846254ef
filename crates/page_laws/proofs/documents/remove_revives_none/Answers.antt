use Rattle.page_laws.proofs.DocumentAfterRemove.{dead-removed}
use Rattle.page_laws.proofs.documents.remove_revives_none.Goals as goal

pub returns : goal.returns
returns c = dead-removed
