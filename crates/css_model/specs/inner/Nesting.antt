-- The component values of tokens, found from the last token to the first: each bracket is opened,
-- and closed by its match (CSS Syntax 3, sections 5.4.7 to 5.4.9). What they are is said in
-- Components, and contracts cite that.
use Rattle.std.specs.Prelude.{List, [], ◌∷◌, if◌then◌else◌, drop, Option, Some, None, Bool, true, false}
use Rattle.std.specs.Option.{is_some}
use Rattle.css_model.specs.declared.token.Bracket.{Bracket}
use Rattle.css_model.specs.declared.token.Token.{Token}
use Rattle.css_model.specs.declared.token.TokenType.{TokenType}
use Rattle.css_model.specs.declared.token.TokenType.TheVariants.{Function}
use Rattle.css_model.specs.Components.{Component, preserved, simple_block, function_block, Components, no_components, component, opened_by, closes}

-- this is a function
abbrev pub is_function : TokenType → Bool
is_function (Function name) = true
is_function other = false

-- the component of an opening token, with its contents and the token that closes it
abbrev pub bracketed : Token → Components → Option Token → Component
bracketed head contents close =
    if is_function head.token_type
    then function_block head contents close
    else simple_block head contents close

-- the innermost open bracket, where these tokens opened brackets, the last one first
abbrev pub innermost : List Token → Option Bracket
innermost [] = None
innermost (head ∷ outer) = opened_by head.token_type

-- what is left of the open brackets: the rest of the innermost one, and for each that is closed its
-- closing token with the rest of the bracket around it
pub data Levels : Type 0 where
  levels : (contents : Components) (outside : List (Token × Components)) → Levels

-- what is in the innermost bracket
abbrev pub contents_of : Levels → Components
contents_of (levels contents outside) = contents

-- components, and then more of them
abbrev pub followed : Components → Components → Components
followed no_components ds = ds
followed (component c cs) ds = component c (followed cs ds)

-- components in front
abbrev pub onto : Components → Levels → Levels
onto cs (levels contents outside) = levels (followed cs contents) outside

-- a preserved token in front
abbrev pub alone : Token → Levels → Levels
alone t (levels contents outside) = levels (component (preserved t) contents) outside

-- a token in front that closes the innermost bracket
abbrev pub closed : Token → Levels → Levels
closed t (levels contents outside) = levels no_components ((t, contents) ∷ outside)

-- a token in front that opens the innermost bracket, which ends with its match, or where the tokens end
abbrev pub enclosed : Token → Levels → Levels
enclosed head (levels contents []) = levels (component (bracketed head contents None) no_components) []
enclosed head (levels contents (level ∷ outside)) =
    levels (component (bracketed head contents (Some level.0)) level.1) outside

-- the levels of tokens, where `heads` opened the open brackets, the last one first
unfoldable pub levels_of : List Token → List Token → Levels
levels_of heads [] = levels no_components []
levels_of heads (t ∷ ts) =
    if is_some (opened_by t.token_type)
    then enclosed t (levels_of (t ∷ heads) ts)
    else if closes (innermost heads) t.token_type
    then closed t (levels_of (drop 1 heads) ts)
    else alone t (levels_of heads ts)

-- the component values of tokens
abbrev pub nesting : List Token → Components
nesting tokens = contents_of (levels_of [] tokens)
