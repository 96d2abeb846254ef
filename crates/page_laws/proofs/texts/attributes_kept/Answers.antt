use Rattle.page_laws.proofs.AttributesAfterChange.{attributes-kept}
use Rattle.page_laws.proofs.texts.attributes_kept.Goals as goal

pub returns : goal.returns
returns c = attributes-kept
