use Rattle.page_laws.proofs.KeptLimits.{kept-removed}
use Rattle.page_laws.proofs.limits.kept_by_remove.Goals as goal

pub returns : goal.returns
returns c = kept-removed
