use Rattle.page_laws.proofs.DocumentAfterInsert.{dead-inserted}
use Rattle.page_laws.proofs.documents.insert_revives_none.Goals as goal

pub returns : goal.returns
returns c = dead-inserted
