use Rattle.page_laws.proofs.TreeAfterInsert.{parent-new}
use Rattle.page_laws.proofs.insert.new_parent.Goals as goal

pub returns : goal.returns
returns c = parent-new
