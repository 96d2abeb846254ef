-- The numbers of rules.
use Rattle.std.specs.Prelude.{◌≡◌, ℕ, ◌<◌, List, length, get_or}
use Rattle.selectors.specs.declared.rules.Rule.{Rule}

-- the number of each is its place
abbrev pub AreNumbered : List Rule → Type 0
AreNumbered rules = (k : ℕ) (d : Rule) → k < length rules → (get_or rules k d).number ≡ k
