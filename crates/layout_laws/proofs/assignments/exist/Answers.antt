use Rattle.layout_laws.proofs.FlatAssignment.{some-consistent}
use Rattle.layout_laws.proofs.assignments.exist.Goals as goal

pub returns : goal.returns
returns c = some-consistent
