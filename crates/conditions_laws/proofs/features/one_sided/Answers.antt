use Rattle.conditions_laws.proofs.FeatureForms.{range-first}
use Rattle.conditions_laws.proofs.features.one_sided.Goals as goal

pub returns : goal.returns
returns c = range-first
