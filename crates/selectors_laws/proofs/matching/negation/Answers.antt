use Rattle.selectors_laws.proofs.Matched.{negated, negates}
use Rattle.selectors_laws.proofs.matching.negation.Goals as goal

pub returns : goal.returns
returns c = λ root list i. (λ e s m. negated root list i s e m, negates root list i)
