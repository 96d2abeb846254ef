-- The types of tokens in brackets, as `An+B` and attribute selectors read them.
use Rattle.std.specs.Prelude.{if◌then◌else◌, List, [], ◌∷◌, Bool, true, false}
use Rattle.css_model.specs.declared.token.TokenType.{TokenType}
use Rattle.css_model.specs.declared.token.TokenType.TheVariants.{Whitespace}
use Rattle.css_model.specs.Components.{Component, preserved, simple_block, function_block, Components, no_components, component}

-- the types of the tokens of a list, where a block or a function has the type of the token that opens it
abbrev pub type_of : Component → TokenType
type_of (preserved t) = t.token_type
type_of (simple_block head contents close) = head.token_type
type_of (function_block head contents close) = head.token_type

abbrev pub types_of : Components → List TokenType
types_of no_components = []
types_of (component c cs) = type_of c ∷ types_of cs

abbrev pub is_whitespace_type : TokenType → Bool
is_whitespace_type Whitespace = true
is_whitespace_type other = false

-- without the white space in front
abbrev pub without_front_whitespace : List TokenType → List TokenType
without_front_whitespace [] = []
without_front_whitespace (t ∷ ts) = if is_whitespace_type t then without_front_whitespace ts else t ∷ ts

-- without any white space
abbrev pub without_whitespace : List TokenType → List TokenType
without_whitespace [] = []
without_whitespace (t ∷ ts) = if is_whitespace_type t then without_whitespace ts else t ∷ without_whitespace ts
