use Rattle.layout_laws.proofs.ConsistentPages.{consistent-says}
use Rattle.layout_laws.proofs.page_assignments.say_what_is_laid.Goals as goal

pub returns : goal.returns
returns c = consistent-says
