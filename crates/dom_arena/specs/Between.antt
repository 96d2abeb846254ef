-- The siblings between which a child stands.
use Rattle.std.specs.Prelude.{◌≡◌, ℕ, List, None, Some, Option, take, drop}
use Rattle.dom_arena.specs.declared.link.Link.{Link}
use Rattle.dom_arena.specs.Cells.{Place, final, front}
use Rattle.dom_arena.specs.Slots.{target}

-- one link leads to the last of the first `k` of these, the other to the first of the rest
abbrev pub IsBetween : Link → Link → ℕ → List ℕ → Type 0
IsBetween prev next k xs = (target prev ≡ final None (take k xs)) × (target next ≡ front (drop k xs) None)

abbrev pub before_in : Option Place → Option ℕ
before_in None = None
before_in (Some p) = p.before
