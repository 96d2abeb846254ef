use Rattle.page_laws.proofs.TreeAfterInsert.{text_size-inserted}
use Rattle.page_laws.proofs.insert.text_size.Goals as goal

pub returns : goal.returns
returns c = text_size-inserted
