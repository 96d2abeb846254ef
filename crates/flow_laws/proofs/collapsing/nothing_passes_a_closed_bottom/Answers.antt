use Rattle.flow_laws.proofs.Closed.{bottom-alone}
use Rattle.flow_laws.proofs.collapsing.nothing_passes_a_closed_bottom.Goals as goal

pub returns : goal.returns
returns c = bottom-alone
