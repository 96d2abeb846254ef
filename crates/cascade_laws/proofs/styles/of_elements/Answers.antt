use Rattle.cascade_laws.proofs.AreStyled.{element-some}
use Rattle.cascade_laws.proofs.styles.of_elements.Goals as goal

pub returns : goal.returns
returns c = element-some
