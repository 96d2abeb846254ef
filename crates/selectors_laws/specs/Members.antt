-- The members of a selector list.
use Rattle.std.specs.Prelude.{◌≡◌, ◌⊎◌, ℕ, true}
use Rattle.page_model.specs.Document.{Node}
use Rattle.selectors_model.specs.Matching.{matches}
use Rattle.selectors_model.specs.Selectors.{Selector, SelectorList, no_selectors, selector}

-- the selector is a member of the list
abbrev pub IsMember : Selector → SelectorList → Type 0
IsMember s no_selectors = ⊥
IsMember s (selector t list) = (s ≡ t) ⊎ IsMember s list

-- a member of the list matches the element
abbrev pub OneMatches : Node → SelectorList → ℕ → Type 0
OneMatches root list i = (s : Selector) × IsMember s list × (matches root s i ≡ true)
