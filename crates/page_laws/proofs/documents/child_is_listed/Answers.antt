use Rattle.page_laws.proofs.ParentOf.{parent-lists}
use Rattle.page_laws.proofs.documents.child_is_listed.Goals as goal

pub returns : goal.returns
returns c = parent-lists
