use Rattle.page_laws.proofs.TreeAfterChange.{list-changed}
use Rattle.page_laws.proofs.attributes.child_lists.Goals as goal

pub returns : goal.returns
returns c = list-changed
