use Rattle.std.proofs.Common.{◌+◌, length}
use Rattle.custom_props.specs.inner.Graphs.{Searches, unmarked}
use Rattle.custom_props.proofs.searches.is_on_cycle.Given as goal

-- what is marked is reached, and leads on to what is marked or is to be looked at
abbrev pub invariant-loop-place : goal.invariant-loop-place
invariant-loop-place l = Searches l.graph l.start l.marks l.pending

abbrev pub decreases-loop-place : goal.decreases-loop-place
decreases-loop-place l = length l.pending + unmarked l.marks
