use Rattle.page_laws.proofs.AttributesAfterChange.{value-set-at}
use Rattle.page_laws.proofs.attributes.value_set.Goals as goal

pub returns : goal.returns
returns c = value-set-at
