use Rattle.page_laws.proofs.ParentOf.{listed-parent}
use Rattle.page_laws.proofs.documents.listed_once.Goals as goal

pub returns : goal.returns
returns c = listed-parent
