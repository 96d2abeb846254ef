use Rattle.custom_props.specs.inner.Walks.{AreAllEntered}
use Rattle.custom_props.proofs.orders.enter_each.Given as goal

-- those so far are to be entered
abbrev pub invariant-loop-place : goal.invariant-loop-place
invariant-loop-place l = AreAllEntered l.place l.tasks
