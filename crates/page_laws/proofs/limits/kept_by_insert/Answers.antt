use Rattle.page_laws.proofs.KeptLimits.{kept-inserted}
use Rattle.page_laws.proofs.limits.kept_by_insert.Goals as goal

pub returns : goal.returns
returns c = kept-inserted
