use Rattle.page_laws.proofs.AttributesAfterChange.{ids-kept}
use Rattle.page_laws.proofs.attributes.ids.Goals as goal

pub returns : goal.returns
returns c = ids-kept
