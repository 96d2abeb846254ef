-- Matching by a chain of elements, one for each compound (Selectors 4, section 15).
use Rattle.std.specs.Prelude.{◌≡◌, ◌⊎◌, ℕ, true}
use Rattle.page_model.specs.Document.{Node, IsAmong}
use Rattle.selectors_model.specs.Elements.{left_of}
use Rattle.selectors_model.specs.Matching.{compound_matches}
use Rattle.selectors_model.specs.Selectors.{Simple, Compound, no_simples, simple, Selector, compound, combined}

-- there are elements, the last of which is this one, so that each meets its compound by itself, and
-- each is on the left of the next by the combinator between
abbrev pub IsMatch : Node → Selector → ℕ → Type 0
IsMatch root (compound c) i = compound_matches root c i ≡ true
IsMatch root (combined s combinator c) i =
    (compound_matches root c i ≡ true) × (e : ℕ) × IsAmong e (left_of combinator i root)
    × IsMatch root s e

-- the simple selector is in the compound
abbrev pub IsIn : Simple → Compound → Type 0
IsIn s no_simples = ⊥
IsIn s (simple t c) = (s ≡ t) ⊎ IsIn s c

-- the compound is one of the selector's
abbrev pub IsCompoundOf : Compound → Selector → Type 0
IsCompoundOf d (compound c) = d ≡ c
IsCompoundOf d (combined s combinator c) = (d ≡ c) ⊎ IsCompoundOf d s
