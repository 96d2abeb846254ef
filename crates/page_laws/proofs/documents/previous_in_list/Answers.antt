use Rattle.page_laws.proofs.ParentOf.{prev-listed}
use Rattle.page_laws.proofs.documents.previous_in_list.Goals as goal

pub returns : goal.returns
returns c = prev-listed
