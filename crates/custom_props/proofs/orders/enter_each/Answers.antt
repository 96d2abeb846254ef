use Rattle.custom_props.proofs.Ordering.{all_entered_least, all_entered_more}
use Rattle.custom_props.proofs.orders.enter_each.Goals as goal

pub loop-place-preserved : goal.loop-place-preserved
loop-place-preserved c =
    all_entered_more c.loop-place.place c.loop-place.tasks c.push.new.self c.in_ok-push.ensures.ok c.loop-place.invariant

pub returns : goal.returns
returns c =
    all_entered_least c.loop-place.place c.args.count c.loop-place.tasks c.loop-place-test.false c.loop-place.invariant
