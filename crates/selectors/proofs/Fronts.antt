-- The token type in front of component values.
use Rattle.std.proofs.Common.{◌≡◌, refl, ◌<◌, ◌+◌, ℕ, List, ◌∷◌, true, length, drop, drop-cons, get_or, add-one}
use Rattle.css_tokens.specs.declared.component.Component.{Component}
use Rattle.css_tokens.specs.Nested.{component_view}
use Rattle.selectors_model.specs.TokenTypes.{type_of, is_whitespace_type, without_front_whitespace, without_whitespace}
use Rattle.selectors.specs.inner.Fronts.{types}

types-drop : (cs : List Component) (i : ℕ) (c : Component) → i < length cs → c ≡ get_or cs i c
    → types (drop i cs) ≡ type_of (component_view c) ∷ types (drop (i + 1) cs)
types-drop cs i c h is = rw (drop-cons cs i c, ← is, add-one) refl

-- white space in front was passed
pub white-passed : (cs : List Component) (i : ℕ) (c : Component) → i < length cs → c ≡ get_or cs i c
    → is_whitespace_type (type_of (component_view c)) ≡ true
    → (without_front_whitespace (types (drop (i + 1) cs)) ≡ without_front_whitespace (types (drop i cs)))
    × (without_whitespace (types (drop (i + 1) cs)) ≡ without_whitespace (types (drop i cs)))
white-passed cs i c h is w = (rw (types-drop cs i c h is, w) refl, rw (types-drop cs i c h is, w) refl)
