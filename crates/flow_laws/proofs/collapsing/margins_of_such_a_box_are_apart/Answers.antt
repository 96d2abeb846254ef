use Rattle.flow_laws.proofs.Closed.{apart}
use Rattle.flow_laws.proofs.collapsing.margins_of_such_a_box_are_apart.Goals as goal

pub returns : goal.returns
returns c = apart
