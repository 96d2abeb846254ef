use Rattle.selectors_laws.proofs.Sums.{upper, reached, none-matches}
use Rattle.selectors_laws.proofs.specificity.for_an_element.Goals as goal

pub returns-clause-upper : goal.returns-clause-upper
returns-clause-upper c = upper

pub returns-clause-reached : goal.returns-clause-reached
returns-clause-reached c = reached

pub returns-clause-none : goal.returns-clause-none
returns-clause-none c = none-matches
