use Rattle.page_laws.proofs.TreeAfterRemove.{parent-left}
use Rattle.page_laws.proofs.remove.parents.Goals as goal

pub returns : goal.returns
returns c = parent-left
