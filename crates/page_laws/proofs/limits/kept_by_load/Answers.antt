use Rattle.page_laws.proofs.KeptLimits.{kept-loaded}
use Rattle.page_laws.proofs.limits.kept_by_load.Goals as goal

pub returns : goal.returns
returns c = kept-loaded
