-- What rules and declarations ask of component values, and parts of lists of them.
use Rattle.std.specs.Prelude.{◌&&◌, ◌||◌, if◌then◌else◌, Option, Some, None, Bool, true, false}
use Rattle.css_model.specs.declared.token.Bracket.TheVariants.{Curly}
use Rattle.css_model.specs.declared.token.TokenType.{TokenType}
use Rattle.css_model.specs.declared.token.TokenType.TheVariants.{Ident, AtKeyword, Whitespace, Cdo, Cdc, Colon, Semicolon, Opening}
use Rattle.css_model.specs.Classes.{Text}
use Rattle.css_model.specs.Components.{Component, preserved, simple_block, Components, no_components, component}

-- ---- types of tokens

abbrev pub is_whitespace_type : TokenType → Bool
is_whitespace_type Whitespace = true
is_whitespace_type other = false

-- `<!--` or `-->`
abbrev pub is_cdo_or_cdc_type : TokenType → Bool
is_cdo_or_cdc_type Cdo = true
is_cdo_or_cdc_type Cdc = true
is_cdo_or_cdc_type other = false

abbrev pub is_colon_type : TokenType → Bool
is_colon_type Colon = true
is_colon_type other = false

abbrev pub is_semicolon_type : TokenType → Bool
is_semicolon_type Semicolon = true
is_semicolon_type other = false

-- `{`
abbrev pub is_curly_type : TokenType → Bool
is_curly_type (Opening Curly) = true
is_curly_type other = false

-- the name of an identifier
abbrev pub ident_of_type : TokenType → Option Text
ident_of_type (Ident name) = Some name
ident_of_type other = None

-- the name of an at-keyword
abbrev pub at_keyword_of_type : TokenType → Option Text
at_keyword_of_type (AtKeyword name) = Some name
at_keyword_of_type other = None

-- ---- component values

-- a preserved token of such a type
abbrev pub is_token : (TokenType → Bool) → Component → Bool
is_token test (preserved t) = test t.token_type
is_token test other = false

-- what the type of a preserved token tells
abbrev pub token_name : (TokenType → Option Text) → Component → Option Text
token_name name (preserved t) = name t.token_type
token_name name other = None

abbrev pub is_whitespace : Component → Bool
is_whitespace c = is_token is_whitespace_type c

abbrev pub is_colon : Component → Bool
is_colon c = is_token is_colon_type c

abbrev pub is_semicolon : Component → Bool
is_semicolon c = is_token is_semicolon_type c

abbrev pub ident_of : Component → Option Text
ident_of c = token_name ident_of_type c

abbrev pub at_keyword_of : Component → Option Text
at_keyword_of c = token_name at_keyword_of_type c

-- a `{}` block
abbrev pub is_curly_block : Component → Bool
is_curly_block (simple_block head contents close) = is_curly_type head.token_type
is_curly_block other = false

-- what ends an at-rule: its `;` or its `{}` block (CSS Syntax 3, section 5.4.2)
abbrev pub ends_at_rule : Component → Bool
ends_at_rule c = is_semicolon c || is_curly_block c

-- what is in a simple block
abbrev pub contents_of : Component → Components
contents_of (simple_block head contents close) = contents
contents_of other = no_components

-- ---- lists

-- what is before the first that passes, or all where none does
abbrev pub before : (Component → Bool) → Components → Components
before test no_components = no_components
before test (component c cs) = if test c then no_components else component c (before test cs)

-- all of it is white space
abbrev pub are_whitespace : Components → Bool
are_whitespace no_components = true
are_whitespace (component c cs) = is_whitespace c && are_whitespace cs

-- without the white space in front
abbrev pub without_front_whitespace : Components → Components
without_front_whitespace no_components = no_components
without_front_whitespace (component c cs) =
    if is_whitespace c then without_front_whitespace cs else component c cs

-- without the white space at the end
abbrev pub without_end_whitespace : Components → Components
without_end_whitespace no_components = no_components
without_end_whitespace (component c cs) =
    if are_whitespace (component c cs) then no_components else component c (without_end_whitespace cs)

-- without the white space at both ends
abbrev pub trimmed : Components → Components
trimmed cs = without_end_whitespace (without_front_whitespace cs)
