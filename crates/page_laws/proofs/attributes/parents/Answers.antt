use Rattle.page_laws.proofs.TreeAfterChange.{parent-changed}
use Rattle.page_laws.proofs.attributes.parents.Goals as goal

pub returns : goal.returns
returns c = parent-changed
