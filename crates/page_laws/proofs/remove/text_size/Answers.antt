use Rattle.page_laws.proofs.TreeAfterRemove.{text_size-removed}
use Rattle.page_laws.proofs.remove.text_size.Goals as goal

pub returns : goal.returns
returns c = text_size-removed
