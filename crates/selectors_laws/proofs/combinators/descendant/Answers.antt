use Rattle.selectors_laws.proofs.Steps.{ancestor-reached, reached-ancestor}
use Rattle.selectors_laws.proofs.combinators.descendant.Goals as goal

pub returns : goal.returns
returns c = λ root i e d. (ancestor-reached root i e d, reached-ancestor root i e d)
