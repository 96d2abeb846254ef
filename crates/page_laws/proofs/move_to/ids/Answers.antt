use Rattle.page_laws.proofs.TreeAfterMove.{among-moved}
use Rattle.page_laws.proofs.move_to.ids.Goals as goal

pub returns : goal.returns
returns c = among-moved
