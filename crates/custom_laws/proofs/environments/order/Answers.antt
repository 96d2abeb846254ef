use Rattle.custom_laws.proofs.Reordering.{same-environment}
use Rattle.custom_laws.proofs.environments.order.Goals as goal

pub returns : goal.returns
returns c = same-environment
