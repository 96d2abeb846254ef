-- The token type in front of component values.
use Rattle.std.specs.Prelude.{◌≡◌, List, [], ◌∷◌, Option, Some, None}
use Rattle.css_model.specs.declared.token.TokenType.{TokenType}
use Rattle.css_tokens.specs.declared.component.Component.{Component}
use Rattle.css_tokens.specs.Nested.{components_view}
use Rattle.selectors_model.specs.TokenTypes.{types_of, without_front_whitespace, without_whitespace}
use Rattle.selectors.specs.declared.reading.fronts.Front.{Front}

-- the types of component values
abbrev pub types : List Component → List TokenType
types cs = types_of (components_view cs)

-- the type that is in front of these, white space left out, and what is after it
pub record Begins (cs : List Component) (t : TokenType) (rest : List Component) : Type 0 where
  pub front : without_front_whitespace (types cs) ≡ t ∷ types rest
  pub solid : without_whitespace (types cs) ≡ t ∷ without_whitespace (types rest)

-- the types are white space
pub record IsBlank (cs : List Component) : Type 0 where
  pub front : without_front_whitespace (types cs) ≡ []
  pub solid : without_whitespace (types cs) ≡ []

-- the first type that is not white space, if there is one
abbrev pub IsFront : Option Front → List Component → Type 0
IsFront None cs = IsBlank cs
IsFront (Some f) cs = Begins cs f.token_type.now f.rest.now
