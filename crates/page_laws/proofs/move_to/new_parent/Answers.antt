use Rattle.page_laws.proofs.TreeAfterMove.{parent-moved}
use Rattle.page_laws.proofs.move_to.new_parent.Goals as goal

pub returns : goal.returns
returns c = parent-moved
