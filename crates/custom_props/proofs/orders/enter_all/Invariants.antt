use Rattle.std.proofs.Common.{◌≡◌, ◌++◌, drop}
use Rattle.custom_props.specs.inner.Walks.{entered}
use Rattle.custom_props.proofs.orders.enter_all.Given as goal

-- the tasks so far and those of the rest
abbrev pub invariant-loop-place : goal.invariant-loop-place
invariant-loop-place l = l.tasks ++ entered (drop l.place-index l.places) ≡ l.fn.tasks ++ entered l.places
