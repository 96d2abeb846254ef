use Rattle.page_laws.proofs.ParentOf.{first-listed}
use Rattle.page_laws.proofs.documents.first_child.Goals as goal

pub returns : goal.returns
returns c = first-listed
