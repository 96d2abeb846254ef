-- The items so far are gone through.
use Rattle.margin_flow.proofs.PlacingSteps.{GoesThrough}
use Rattle.margin_flow.proofs.placing.go_through.Given as goal

abbrev pub invariant-loop-i : goal.invariant-loop-i
invariant-loop-i l = GoesThrough l.u l.items l.i l.offsets l.contents
