use Rattle.page_laws.proofs.BrokenLimits.{load-refused}
use Rattle.page_laws.proofs.limits.of_load.Goals as goal

pub returns : goal.returns
returns c = load-refused
