use Rattle.page_laws.proofs.AttributesAfterChange.{value-dropped-at}
use Rattle.page_laws.proofs.attributes.value_dropped.Goals as goal

pub returns : goal.returns
returns c = value-dropped-at
