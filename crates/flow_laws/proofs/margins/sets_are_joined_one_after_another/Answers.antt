use Rattle.std.proofs.Common.{sym}
use Rattle.flow_laws.proofs.SeenSets.{joined_cons, joined_snoc}
use Rattle.flow_laws.proofs.margins.sets_are_joined_one_after_another.Goals as goal

pub returns-clause-in_front : goal.returns-clause-in_front
returns-clause-in_front c = joined_cons

pub returns-clause-behind : goal.returns-clause-behind
returns-clause-behind c = λ sets m. sym (joined_snoc sets m)
