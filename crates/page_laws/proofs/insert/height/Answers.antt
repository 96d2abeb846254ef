use Rattle.page_laws.proofs.TreeAfterInsert.{height-inserted}
use Rattle.page_laws.proofs.insert.height.Goals as goal

pub returns : goal.returns
returns c = height-inserted
