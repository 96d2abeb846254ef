use Rattle.page_laws.proofs.TreeAfterRemove.{by_itself-left}
use Rattle.page_laws.proofs.remove.nodes.Goals as goal

pub returns : goal.returns
returns c = by_itself-left
