use Rattle.custom_laws.proofs.Reached.{cycle-both}
use Rattle.custom_laws.proofs.cycles.on_cycle.Goals as goal

pub returns : goal.returns
returns c = cycle-both
