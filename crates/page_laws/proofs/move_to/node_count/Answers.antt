use Rattle.page_laws.proofs.TreeAfterMove.{node_count-moved}
use Rattle.page_laws.proofs.move_to.node_count.Goals as goal

pub returns : goal.returns
returns c = node_count-moved
