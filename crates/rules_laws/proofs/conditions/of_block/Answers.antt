use Rattle.rules_laws.proofs.ConditionsAround.{conditions-block}
use Rattle.rules_laws.proofs.conditions.of_block.Goals as goal

pub returns : goal.returns
returns c = conditions-block
