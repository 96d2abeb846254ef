use Rattle.page_laws.proofs.TreeAfterInsert.{find-fresh}
use Rattle.page_laws.proofs.insert.new_nodes.Goals as goal

pub returns : goal.returns
returns c = find-fresh
