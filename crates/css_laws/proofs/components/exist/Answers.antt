use Rattle.css_model.proofs.Nesting.{nesting-is}
use Rattle.css_laws.proofs.components.exist.Goals as goal

pub returns : goal.returns
returns c = nesting-is
