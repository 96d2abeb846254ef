use Rattle.page_laws.proofs.AttributesAfterChange.{text-set-at}
use Rattle.page_laws.proofs.texts.text_set.Goals as goal

pub returns : goal.returns
returns c = text-set-at
