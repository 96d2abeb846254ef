use Rattle.layout_laws.proofs.ConsistentPages.{says-consistent}
use Rattle.layout_laws.proofs.page_assignments.laid_is_consistent.Goals as goal

pub returns : goal.returns
returns c = says-consistent
