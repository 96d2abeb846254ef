use Rattle.flow_laws.proofs.RowSolutions.{are-unique}
use Rattle.flow_laws.proofs.rows.are_unique.Goals as goal

pub returns : goal.returns
returns c = are-unique
