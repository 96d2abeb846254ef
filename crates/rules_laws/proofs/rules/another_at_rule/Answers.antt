use Rattle.rules_laws.proofs.DroppedRules.{dropped-other}
use Rattle.rules_laws.proofs.rules.another_at_rule.Goals as goal

pub returns : goal.returns
returns c = dropped-other
