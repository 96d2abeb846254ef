use Rattle.conditions_laws.proofs.FeatureForms.{max-prefix}
use Rattle.conditions_laws.proofs.features.max_prefix.Goals as goal

pub returns : goal.returns
returns c = max-prefix
