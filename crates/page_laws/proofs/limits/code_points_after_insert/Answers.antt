use Rattle.page_laws.proofs.BrokenLimits.{text_size-after}
use Rattle.page_laws.proofs.limits.code_points_after_insert.Goals as goal

pub returns : goal.returns
returns c = text_size-after
