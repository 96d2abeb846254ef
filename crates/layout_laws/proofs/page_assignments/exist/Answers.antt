use Rattle.layout_laws.proofs.ConsistentPages.{laid-consistent}
use Rattle.layout_laws.proofs.page_assignments.exist.Goals as goal

pub returns : goal.returns
returns c = laid-consistent
