use Rattle.cascade_laws.proofs.Winning.{in-order}
use Rattle.cascade_laws.proofs.winners.are_ordered.Goals as goal

pub returns : goal.returns
returns c = in-order
