use Rattle.selectors_laws.proofs.Matched.{simple-matches, all-match}
use Rattle.selectors_laws.proofs.matching.each_simple.Goals as goal

pub returns : goal.returns
returns c = λ root c i. (λ e s m. simple-matches root c i s e m, all-match root c i)
