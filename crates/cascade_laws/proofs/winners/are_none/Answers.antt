use Rattle.cascade_laws.proofs.Winning.{none-of}
use Rattle.cascade_laws.proofs.winners.are_none.Goals as goal

pub returns : goal.returns
returns c = none-of
