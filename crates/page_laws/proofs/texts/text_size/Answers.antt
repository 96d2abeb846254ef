use Rattle.page_laws.proofs.TreeAfterChange.{text_size-changed}
use Rattle.page_laws.proofs.texts.text_size.Goals as goal

pub returns : goal.returns
returns c = text_size-changed
