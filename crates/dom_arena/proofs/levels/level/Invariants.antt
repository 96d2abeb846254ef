use Rattle.dom_arena.specs.Views.{kept}
use Rattle.dom_arena.proofs.Climbs.{Climbs}
use Rattle.dom_arena.proofs.levels.level.Given as goal

-- so many levels were climbed
abbrev pub invariant-loop-above : goal.invariant-loop-above
invariant-loop-above l = Climbs (kept l.fn.store) l.fn.at l.up l.above
