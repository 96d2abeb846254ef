use Rattle.page_laws.proofs.TreeAfterRemove.{gone-none}
use Rattle.page_laws.proofs.remove.gone.Goals as goal

pub returns : goal.returns
returns c = gone-none
