use Rattle.page_laws.proofs.BrokenLimits.{depth-limit}
use Rattle.page_laws.proofs.limits.depth_of_insert.Goals as goal

pub returns : goal.returns
returns c = depth-limit
