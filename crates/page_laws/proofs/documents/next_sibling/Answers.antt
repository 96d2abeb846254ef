use Rattle.page_laws.proofs.Siblings.{next-sibling}
use Rattle.page_laws.proofs.documents.next_sibling.Goals as goal

pub returns : goal.returns
returns c = next-sibling
