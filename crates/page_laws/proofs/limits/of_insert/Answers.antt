use Rattle.page_laws.proofs.BrokenLimits.{insert-refused}
use Rattle.page_laws.proofs.limits.of_insert.Goals as goal

pub returns : goal.returns
returns c = insert-refused
