use Rattle.std.proofs.Common.{◌≡◌, ◌≤◌, List, None, length, ℕ}
use Rattle.dom_arena.specs.Between.{IsBetween}
use Rattle.dom_arena.specs.Cells.{AreChained, front}
use Rattle.dom_arena.specs.Slots.{place_at, target}
use Rattle.dom_arena.proofs.places.from_front.Given as goal

-- so many children were passed
abbrev pub invariant-loop-passed : goal.invariant-loop-passed
invariant-loop-passed l =
    (up : ℕ) (xs : List ℕ) → AreChained (place_at l.fn.slots) up None xs None → target l.fn.first ≡ front xs None
    → l.fn.index ≤ length xs → IsBetween l.prev l.next l.passed xs
