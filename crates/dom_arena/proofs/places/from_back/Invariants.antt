use Rattle.std.proofs.Common.{◌≡◌, ◌≤◌, ◌-◌, List, None, length, ℕ}
use Rattle.dom_arena.specs.Between.{IsBetween}
use Rattle.dom_arena.specs.Cells.{AreChained, final}
use Rattle.dom_arena.specs.Slots.{place_at, target}
use Rattle.dom_arena.proofs.places.from_back.Given as goal

-- so many children were passed
abbrev pub invariant-loop-passed : goal.invariant-loop-passed
invariant-loop-passed l =
    (up : ℕ) (xs : List ℕ) → AreChained (place_at l.fn.slots) up None xs None → target l.fn.last ≡ final None xs
    → l.fn.behind ≤ length xs → IsBetween l.prev l.next (length xs - l.passed) xs
