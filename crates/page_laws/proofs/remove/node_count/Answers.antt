use Rattle.page_laws.proofs.TreeAfterRemove.{node_count-removed}
use Rattle.page_laws.proofs.remove.node_count.Goals as goal

pub returns : goal.returns
returns c = node_count-removed
