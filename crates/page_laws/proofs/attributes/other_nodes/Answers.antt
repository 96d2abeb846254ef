use Rattle.page_laws.proofs.TreeAfterChange.{by_itself-unchanged}
use Rattle.page_laws.proofs.attributes.other_nodes.Goals as goal

pub returns : goal.returns
returns c = by_itself-unchanged
