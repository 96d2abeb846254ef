use Rattle.page_laws.proofs.TreeAfterChange.{height-changed}
use Rattle.page_laws.proofs.attributes.height.Goals as goal

pub returns : goal.returns
returns c = height-changed
