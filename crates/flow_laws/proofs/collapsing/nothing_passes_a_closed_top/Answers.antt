use Rattle.flow_laws.proofs.Closed.{top-alone}
use Rattle.flow_laws.proofs.collapsing.nothing_passes_a_closed_top.Goals as goal

pub returns : goal.returns
returns c = top-alone
