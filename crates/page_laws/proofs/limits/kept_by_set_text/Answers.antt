use Rattle.page_laws.proofs.ChangedLimits.{kept-text}
use Rattle.page_laws.proofs.limits.kept_by_set_text.Goals as goal

pub returns : goal.returns
returns c = kept-text
