use Rattle.conditions_laws.proofs.TreeValues.{known-condition}
use Rattle.conditions_laws.proofs.known.two_valued.Goals as goal

pub returns : goal.returns
returns r c = known-condition
