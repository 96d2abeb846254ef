use Rattle.page_laws.proofs.TreeAfterInsert.{parent-kept}
use Rattle.page_laws.proofs.insert.parents.Goals as goal

pub returns : goal.returns
returns c = parent-kept
