use Rattle.calculations_laws.proofs.Lengths.{any-length}
use Rattle.calculations_laws.proofs.computing.gives_lengths.Goals as goal

pub returns : goal.returns
returns c = any-length
