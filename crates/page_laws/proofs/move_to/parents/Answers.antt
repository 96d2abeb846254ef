use Rattle.page_laws.proofs.TreeAfterMove.{parent-unmoved}
use Rattle.page_laws.proofs.move_to.parents.Goals as goal

pub returns : goal.returns
returns c = parent-unmoved
