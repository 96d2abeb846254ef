use Rattle.page_laws.proofs.TreeAfterRemove.{list-left}
use Rattle.page_laws.proofs.remove.child_lists.Goals as goal

pub returns : goal.returns
returns c = list-left
