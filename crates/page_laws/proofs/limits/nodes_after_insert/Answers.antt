use Rattle.page_laws.proofs.BrokenLimits.{count-after}
use Rattle.page_laws.proofs.limits.nodes_after_insert.Goals as goal

pub returns : goal.returns
returns c = count-after
