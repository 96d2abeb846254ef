use Rattle.page_laws.proofs.ParentOf.{next-listed}
use Rattle.page_laws.proofs.documents.next_in_list.Goals as goal

pub returns : goal.returns
returns c = next-listed
