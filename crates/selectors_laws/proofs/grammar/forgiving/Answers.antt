use Rattle.selectors_laws.proofs.Forgiving.{all-valid, the-same}
use Rattle.selectors_laws.proofs.grammar.forgiving.Goals as goal

pub returns-clause-of_valid : goal.returns-clause-of_valid
returns-clause-of_valid c = all-valid

pub returns-clause-the_same : goal.returns-clause-the_same
returns-clause-the_same c = the-same
