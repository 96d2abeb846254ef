use Rattle.value_laws.proofs.Places.{in-place}
use Rattle.value_laws.proofs.properties.are_in_places.Goals as goal

pub returns : goal.returns
returns c = in-place
