use Rattle.flow_laws.proofs.Below.{stand-below}
use Rattle.flow_laws.proofs.offsets.items_stand_below_each_other.Goals as goal

pub returns : goal.returns
returns c = stand-below
