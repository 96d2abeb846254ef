use Rattle.page_laws.proofs.DocumentAfterInsert.{old-parent}
use Rattle.page_laws.proofs.documents.kept_parents.Goals as goal

pub returns : goal.returns
returns c = old-parent
