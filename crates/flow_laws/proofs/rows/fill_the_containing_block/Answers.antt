use Rattle.flow_laws.proofs.RowSolutions.{fill}
use Rattle.flow_laws.proofs.rows.fill_the_containing_block.Goals as goal

pub returns : goal.returns
returns c = fill
