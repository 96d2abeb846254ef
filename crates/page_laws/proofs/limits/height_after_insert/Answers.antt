use Rattle.page_laws.proofs.BrokenLimits.{height-after}
use Rattle.page_laws.proofs.limits.height_after_insert.Goals as goal

pub returns : goal.returns
returns c = height-after
