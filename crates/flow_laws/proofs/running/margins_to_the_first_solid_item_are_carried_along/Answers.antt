use Rattle.flow_laws.proofs.RunningSets.{lead-carried}
use Rattle.flow_laws.proofs.running.margins_to_the_first_solid_item_are_carried_along.Goals as goal

pub returns : goal.returns
returns c = lead-carried
