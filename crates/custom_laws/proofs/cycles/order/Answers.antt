use Rattle.custom_laws.proofs.Reordering.{same-cycles}
use Rattle.custom_laws.proofs.cycles.order.Goals as goal

pub returns : goal.returns
returns c = same-cycles
