use Rattle.custom_laws.proofs.Replaced.{environment-free}
use Rattle.custom_laws.proofs.environments.none_left.Goals as goal

pub returns : goal.returns
returns c = environment-free
