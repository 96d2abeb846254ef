use Rattle.page_laws.proofs.ChangedLimits.{kept-set}
use Rattle.page_laws.proofs.limits.kept_by_set_attr.Goals as goal

pub returns : goal.returns
returns c = kept-set
