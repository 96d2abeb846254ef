use Rattle.flow_laws.proofs.RowSolutions.{are-solutions}
use Rattle.flow_laws.proofs.rows.are_solutions.Goals as goal

pub returns : goal.returns
returns c = are-solutions
