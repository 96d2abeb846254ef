use Rattle.layout_laws.proofs.ConsistentPages.{page-same}
use Rattle.layout_laws.proofs.page_assignments.are_unique.Goals as goal

pub returns : goal.returns
returns c = page-same
