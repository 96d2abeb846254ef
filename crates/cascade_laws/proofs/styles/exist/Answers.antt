use Rattle.cascade_laws.proofs.TreeStyles.{some-styled}
use Rattle.cascade_laws.proofs.styles.exist.Goals as goal

pub returns : goal.returns
returns c = some-styled
