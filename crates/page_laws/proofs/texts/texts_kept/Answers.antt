use Rattle.page_laws.proofs.AttributesAfterChange.{text-kept}
use Rattle.page_laws.proofs.texts.texts_kept.Goals as goal

pub returns : goal.returns
returns c = text-kept
