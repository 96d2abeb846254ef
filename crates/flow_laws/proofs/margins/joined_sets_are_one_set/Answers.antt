use Rattle.flow_laws.proofs.SeenSets.{joined-seen}
use Rattle.flow_laws.proofs.margins.joined_sets_are_one_set.Goals as goal

pub returns : goal.returns
returns c = joined-seen
