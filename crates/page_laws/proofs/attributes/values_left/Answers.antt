use Rattle.page_laws.proofs.AttributesAfterChange.{value-left-at}
use Rattle.page_laws.proofs.attributes.values_left.Goals as goal

pub returns : goal.returns
returns c = value-left-at
