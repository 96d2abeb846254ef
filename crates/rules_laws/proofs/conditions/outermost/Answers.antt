use Rattle.rules_laws.proofs.ConditionsAround.{begin-with}
use Rattle.rules_laws.proofs.conditions.outermost.Goals as goal

pub returns : goal.returns
returns c = begin-with
