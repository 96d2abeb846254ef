use Rattle.page_laws.proofs.DocumentAfterInsert.{old-list}
use Rattle.page_laws.proofs.documents.kept_child_lists.Goals as goal

pub returns : goal.returns
returns c = old-list
