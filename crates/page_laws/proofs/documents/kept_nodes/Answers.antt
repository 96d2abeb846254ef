use Rattle.page_laws.proofs.DocumentAfterInsert.{old-by_itself}
use Rattle.page_laws.proofs.documents.kept_nodes.Goals as goal

pub returns : goal.returns
returns c = old-by_itself
