use Rattle.cascade_laws.proofs.AreStyled.{element-same}
use Rattle.cascade_laws.proofs.styles.are_unique.Goals as goal

pub returns : goal.returns
returns c = element-same
