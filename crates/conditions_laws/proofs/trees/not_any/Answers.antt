use Rattle.conditions_laws.proofs.TreeValues.{not-any}
use Rattle.conditions_laws.proofs.trees.not_any.Goals as goal

pub returns : goal.returns
returns r c = not-any
