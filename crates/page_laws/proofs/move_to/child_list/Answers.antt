use Rattle.page_laws.proofs.TreeAfterMove.{list-moved-parent}
use Rattle.page_laws.proofs.move_to.child_list.Goals as goal

pub returns : goal.returns
returns c = list-moved-parent
