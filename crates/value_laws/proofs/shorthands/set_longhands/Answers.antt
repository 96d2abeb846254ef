use Rattle.value_laws.proofs.Longhands.{set-longhands}
use Rattle.value_laws.proofs.shorthands.set_longhands.Goals as goal

pub returns : goal.returns
returns c = set-longhands
