use Rattle.custom_laws.proofs.Found.{found-environment}
use Rattle.custom_laws.proofs.environments.exist.Goals as goal

pub returns : goal.returns
returns c = found-environment
