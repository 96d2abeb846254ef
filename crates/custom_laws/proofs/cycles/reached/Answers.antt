use Rattle.custom_laws.proofs.Reached.{reached-both}
use Rattle.custom_laws.proofs.cycles.reached.Goals as goal

pub returns : goal.returns
returns c = reached-both
