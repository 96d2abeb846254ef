use Rattle.page_laws.proofs.TreeAfterInsert.{by_itself-old}
use Rattle.page_laws.proofs.insert.nodes.Goals as goal

pub returns : goal.returns
returns c = by_itself-old
