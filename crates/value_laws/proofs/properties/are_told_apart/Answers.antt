use Rattle.value_laws.proofs.Places.{same-is, is-same}
use Rattle.value_laws.proofs.properties.are_told_apart.Goals as goal

pub returns : goal.returns
returns c = λ p q. (same-is p q, is-same p q)
