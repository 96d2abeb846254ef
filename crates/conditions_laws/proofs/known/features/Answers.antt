use Rattle.conditions_laws.proofs.FeatureForms.{known-feature}
use Rattle.conditions_laws.proofs.known.features.Goals as goal

pub returns : goal.returns
returns c = known-feature
