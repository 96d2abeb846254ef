use Rattle.std.proofs.Common.{rules}
use Rattle.margin_flow.proofs.RunningContents.{placed-is}
use Rattle.margin_flow.proofs.placing.place_box.Goals as goal

pub returns-clause-placed : goal.returns-clause-placed
returns-clause-placed g c =
    placed-is c.args.u.now c.args.items.now c.in_ok-offsets.offsets c.in_ok-offsets.contents c.ends_of-ends.result
    (search rules) (search rules) (search rules)
