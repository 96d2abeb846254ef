use Rattle.page_laws.proofs.ChangedLimits.{kept-dropped}
use Rattle.page_laws.proofs.limits.kept_by_drop_attr.Goals as goal

pub returns : goal.returns
returns c = kept-dropped
