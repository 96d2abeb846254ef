use Rattle.box_sizes.proofs.ValueThere.{value_there}
use Rattle.box_sizes.proofs.lengths.value.Goals as goal

pub returns : goal.returns
returns c = value_there c.args.s.now c.args.prop c.get.result.now c.get.ensures
