use Rattle.calculations_laws.proofs.Lengths.{from-zero}
use Rattle.calculations_laws.proofs.computing.gives_units_from_zero.Goals as goal

pub returns : goal.returns
returns c = from-zero
