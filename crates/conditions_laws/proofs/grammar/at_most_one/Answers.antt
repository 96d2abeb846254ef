use Rattle.conditions_laws.proofs.WrittenConditions.{one-condition}
use Rattle.conditions_laws.proofs.grammar.at_most_one.Goals as goal

pub returns : goal.returns
returns r c = one-condition
