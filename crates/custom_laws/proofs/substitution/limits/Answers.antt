use Rattle.custom_laws.proofs.Replaced.{within-limits}
use Rattle.custom_laws.proofs.substitution.limits.Goals as goal

pub returns : goal.returns
returns c = within-limits
