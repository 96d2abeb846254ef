use Rattle.calculations_laws.proofs.Lengths.{used-as-declared}
use Rattle.calculations_laws.proofs.computing.truncates_nothing_beside_a_percentage.Goals as goal

pub returns : goal.returns
returns c = used-as-declared
