use Rattle.page_laws.proofs.TreeAfterMove.{text_size-moved}
use Rattle.page_laws.proofs.move_to.text_size.Goals as goal

pub returns : goal.returns
returns c = text_size-moved
