use Rattle.page_laws.proofs.TreeAfterChange.{name-changed}
use Rattle.page_laws.proofs.attributes.names.Goals as goal

pub returns : goal.returns
returns c = name-changed
