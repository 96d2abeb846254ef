use Rattle.page_laws.proofs.TreeAfterRemove.{left-some}
use Rattle.page_laws.proofs.remove.kept.Goals as goal

pub returns : goal.returns
returns c = left-some
