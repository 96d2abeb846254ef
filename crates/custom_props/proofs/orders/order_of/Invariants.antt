use Rattle.std.proofs.Common.{◌+◌, length}
use Rattle.custom_props.specs.inner.Walks.{Orders, tasks_ahead}
use Rattle.custom_props.proofs.orders.order_of.Given as goal

-- what is in order, and what is still to be done
abbrev pub invariant-loop-task : goal.invariant-loop-task
invariant-loop-task l = Orders l.graph l.marks l.tasks l.order

abbrev pub decreases-loop-task : goal.decreases-loop-task
decreases-loop-task l = length l.tasks + tasks_ahead l.graph l.marks
