use Rattle.page_laws.proofs.Siblings.{previous-sibling}
use Rattle.page_laws.proofs.documents.previous_sibling.Goals as goal

pub returns : goal.returns
returns c = previous-sibling
