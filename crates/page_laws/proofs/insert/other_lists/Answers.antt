use Rattle.page_laws.proofs.TreeAfterInsert.{list-other}
use Rattle.page_laws.proofs.insert.other_lists.Goals as goal

pub returns : goal.returns
returns c = list-other
