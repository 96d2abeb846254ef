-- The rules that match an element, each with its specificity for it (Selectors 4, section 17).
use Rattle.std.specs.Prelude.{ℕ, ◌<◌, List, [], ◌∷◌, Option, Some, None}
use Rattle.std.specs.List.{All, AllPairs}
use Rattle.page_model.specs.Document.{Node}
use Rattle.selectors_model.specs.declared.spec.Spec.{Spec}
use Rattle.selectors_model.specs.Specificity.{matching_specificity}
use Rattle.selectors.specs.declared.rules.Rule.{Rule}
use Rattle.selectors.specs.Views.{list_view}

-- the number is greater than that of each rule
abbrev pub IsAfterAll : ℕ → List Rule → Type 0
IsAfterAll number rules = All (λ r. r.number < number) rules

-- each number is less than those of the rules after it
abbrev pub AreAscending : List Rule → Type 0
AreAscending rules = AllPairs (λ r later. r.number < later.number) rules

-- a rule's number with the specificity of a match, if it matched, in front of those of the rules after it
abbrev pub with_match : ℕ → Option Spec → List (ℕ × Spec) → List (ℕ × Spec)
with_match number None pairs = pairs
with_match number (Some spec) pairs = (number, spec) ∷ pairs

-- the rules that match the element, in their order: the number of each, and the specificity of its most
-- specific member that matches
abbrev pub matched_rules : Node → List Rule → ℕ → List (ℕ × Spec)
matched_rules root [] i = []
matched_rules root (r ∷ rules) i =
    with_match r.number (matching_specificity root (list_view r.list) i) (matched_rules root rules i)
