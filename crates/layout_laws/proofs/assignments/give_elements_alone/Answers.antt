use Rattle.layout_laws.proofs.Holds.{consistent-element, consistent-some}
use Rattle.layout_laws.proofs.assignments.give_elements_alone.Goals as goal

pub returns : goal.returns
returns c = λ setting page a i h. (consistent-element setting page a i h, consistent-some setting page a i h)
