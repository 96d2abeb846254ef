use Rattle.conditions_laws.proofs.FeatureForms.{min-prefix}
use Rattle.conditions_laws.proofs.features.min_prefix.Goals as goal

pub returns : goal.returns
returns c = min-prefix
