use Rattle.page_laws.proofs.TreeAfterRemove.{height-left}
use Rattle.page_laws.proofs.remove.height.Goals as goal

pub returns : goal.returns
returns c = height-left
