use Rattle.dom_arena.specs.Views.{kept}
use Rattle.dom_arena.proofs.Within.{Rises}
use Rattle.dom_arena.proofs.move_to.stands_within.Given as goal

-- so many levels were climbed, and none of the nodes passed is the one in the slot `at`
abbrev pub invariant-loop-above : goal.invariant-loop-above
invariant-loop-above l = Rises (kept l.fn.store) l.fn.at l.fn.from l.up l.above
