use Rattle.layout_laws.proofs.ConsistentPages.{page-element, page-some}
use Rattle.layout_laws.proofs.page_assignments.give_elements_alone.Goals as goal

pub returns : goal.returns
returns c = λ setting page a i h. (page-element setting page a i h, page-some setting page a i h)
