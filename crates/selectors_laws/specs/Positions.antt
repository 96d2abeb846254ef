-- The numbers of an `An+B` (CSS Syntax 3, section 6).
use Rattle.std.specs.Prelude.{◌≡◌, ◌+ℤ◌, ◌*ℤ◌, ℕ, pos}
use Rattle.selectors_model.specs.declared.an_plus_b.AnPlusB.{AnPlusB}

-- the number is A n + B for some n from 0 on
abbrev pub IsOneOf : AnPlusB → ℕ → Type 0
IsOneOf at number = (n : ℕ) × (pos number ≡ at.step *ℤ pos n +ℤ at.offset)
