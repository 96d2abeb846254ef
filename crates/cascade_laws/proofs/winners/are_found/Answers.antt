use Rattle.cascade_laws.proofs.Winning.{found}
use Rattle.cascade_laws.proofs.winners.are_found.Goals as goal

pub returns : goal.returns
returns c = found
