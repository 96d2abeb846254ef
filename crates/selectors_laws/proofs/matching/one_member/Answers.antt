use Rattle.selectors_laws.proofs.Matched.{member-matches, list-matches}
use Rattle.selectors_laws.proofs.matching.one_member.Goals as goal

pub returns : goal.returns
returns c = λ root list i. (member-matches root list i, λ h. list-matches root list i h.0 h.1 h.2)
