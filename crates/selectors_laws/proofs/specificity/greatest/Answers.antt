use Rattle.selectors_laws.proofs.Sums.{greatest-upper}
use Rattle.selectors_laws.proofs.specificity.greatest.Goals as goal

pub returns : goal.returns
returns c = greatest-upper
