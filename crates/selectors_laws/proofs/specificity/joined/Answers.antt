use Rattle.selectors_laws.proofs.Sums.{sum-joined}
use Rattle.selectors_laws.proofs.specificity.joined.Goals as goal

pub returns : goal.returns
returns c = sum-joined
