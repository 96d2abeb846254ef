use Rattle.layout_laws.proofs.Holds.{consistent-same}
use Rattle.layout_laws.proofs.assignments.are_unique.Goals as goal

pub returns : goal.returns
returns c = consistent-same
