use Rattle.cascade_laws.proofs.Winning.{one-winner}
use Rattle.cascade_laws.proofs.winners.are_unique.Goals as goal

pub returns : goal.returns
returns c = one-winner
