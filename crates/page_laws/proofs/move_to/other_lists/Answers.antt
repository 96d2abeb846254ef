use Rattle.page_laws.proofs.TreeAfterMove.{list-moved-other}
use Rattle.page_laws.proofs.move_to.other_lists.Goals as goal

pub returns : goal.returns
returns c = list-moved-other
