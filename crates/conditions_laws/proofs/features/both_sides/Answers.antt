use Rattle.conditions_laws.proofs.FeatureForms.{both-sides}
use Rattle.conditions_laws.proofs.features.both_sides.Goals as goal

pub returns : goal.returns
returns c = both-sides
