use Rattle.rules_laws.proofs.DroppedRules.{dropped-unended}
use Rattle.rules_laws.proofs.rules.unended.Goals as goal

pub returns : goal.returns
returns c = dropped-unended
