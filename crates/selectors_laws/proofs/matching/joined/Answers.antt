use Rattle.selectors_laws.proofs.Matched.{joined-matches}
use Rattle.selectors_laws.proofs.matching.joined.Goals as goal

pub returns : goal.returns
returns c = joined-matches
