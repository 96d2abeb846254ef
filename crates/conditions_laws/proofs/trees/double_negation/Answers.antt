use Rattle.conditions_laws.proofs.TreeValues.{twice}
use Rattle.conditions_laws.proofs.trees.double_negation.Goals as goal

pub returns : goal.returns
returns r c = twice
