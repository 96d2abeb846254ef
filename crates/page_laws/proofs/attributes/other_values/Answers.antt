use Rattle.page_laws.proofs.AttributesAfterChange.{value-other-at}
use Rattle.page_laws.proofs.attributes.other_values.Goals as goal

pub returns : goal.returns
returns c = value-other-at
