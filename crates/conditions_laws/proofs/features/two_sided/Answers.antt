use Rattle.conditions_laws.proofs.FeatureForms.{two-sided}
use Rattle.conditions_laws.proofs.features.two_sided.Goals as goal

pub returns : goal.returns
returns c = two-sided
