use Rattle.cascade_laws.proofs.AreStyled.{child-style}
use Rattle.cascade_laws.proofs.styles.of_children.Goals as goal

pub returns : goal.returns
returns c = child-style
