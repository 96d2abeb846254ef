use Rattle.page_laws.proofs.TreeAfterInsert.{node_count-inserted}
use Rattle.page_laws.proofs.insert.node_count.Goals as goal

pub returns : goal.returns
returns c = node_count-inserted
