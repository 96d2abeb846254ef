use Rattle.flow_laws.proofs.RunningSets.{above-carried}
use Rattle.flow_laws.proofs.running.margins_above_are_carried_along.Goals as goal

pub returns : goal.returns
returns c = above-carried
