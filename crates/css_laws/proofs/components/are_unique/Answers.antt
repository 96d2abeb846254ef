use Rattle.css_laws.proofs.OneNesting.{one-nesting}
use Rattle.css_laws.proofs.components.are_unique.Goals as goal

pub returns : goal.returns
returns c = one-nesting
