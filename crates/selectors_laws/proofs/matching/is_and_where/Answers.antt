use Rattle.selectors_laws.proofs.Matched.{member-matches, list-matches}
use Rattle.selectors_laws.proofs.matching.is_and_where.Goals as goal

pub returns-clause-is : goal.returns-clause-is
returns-clause-is c = λ root list i. (member-matches root list i, λ h. list-matches root list i h.0 h.1 h.2)

pub returns-clause-where_list : goal.returns-clause-where_list
returns-clause-where_list c = λ root list i. (member-matches root list i, λ h. list-matches root list i h.0 h.1 h.2)
