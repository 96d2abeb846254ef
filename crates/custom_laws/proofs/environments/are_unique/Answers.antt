use Rattle.custom_laws.proofs.Found.{one-environment}
use Rattle.custom_laws.proofs.environments.are_unique.Goals as goal

pub returns : goal.returns
returns c = one-environment
