use Rattle.conditions_laws.proofs.TreeValues.{not-all}
use Rattle.conditions_laws.proofs.trees.not_all.Goals as goal

pub returns : goal.returns
returns r c = not-all
