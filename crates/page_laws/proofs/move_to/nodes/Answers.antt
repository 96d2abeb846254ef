use Rattle.page_laws.proofs.TreeAfterMove.{by_itself-moved}
use Rattle.page_laws.proofs.move_to.nodes.Goals as goal

pub returns : goal.returns
returns c = by_itself-moved
