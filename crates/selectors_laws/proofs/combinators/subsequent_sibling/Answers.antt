use Rattle.selectors_laws.proofs.Steps.{earlier-reached, reached-earlier}
use Rattle.selectors_laws.proofs.combinators.subsequent_sibling.Goals as goal

pub returns : goal.returns
returns c = λ root i e d s. (earlier-reached root i e d s, reached-earlier root i e d s)
