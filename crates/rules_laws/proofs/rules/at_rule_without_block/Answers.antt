use Rattle.rules_laws.proofs.DroppedRules.{dropped-without_block}
use Rattle.rules_laws.proofs.rules.at_rule_without_block.Goals as goal

pub returns : goal.returns
returns c = dropped-without_block
