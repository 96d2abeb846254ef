use Rattle.cascade_laws.proofs.Values.{value-is}
use Rattle.cascade_laws.proofs.styles.have_values.Goals as goal

pub returns : goal.returns
returns c = value-is
