use Rattle.page_laws.proofs.TreeAfterInsert.{list-parent}
use Rattle.page_laws.proofs.insert.child_list.Goals as goal

pub returns : goal.returns
returns c = list-parent
