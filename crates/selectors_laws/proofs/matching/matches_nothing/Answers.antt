use Rattle.selectors_laws.proofs.Matched.{never-matches}
use Rattle.selectors_laws.proofs.matching.matches_nothing.Goals as goal

pub returns : goal.returns
returns c = never-matches
