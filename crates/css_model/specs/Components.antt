-- Component values: tokens, nested by their brackets (CSS Syntax 3, sections 5.4.7 to 5.4.9).
use Rattle.std.specs.Prelude.{◌≡◌, ℕ, suc, max, List, [], ◌∷◌, ◌++◌, Option, Some, None, Bool, true, false}
use Rattle.css_model.specs.declared.token.Bracket.{Bracket}
use Rattle.css_model.specs.declared.token.Bracket.TheVariants.{Round, Square, Curly}
use Rattle.css_model.specs.declared.token.Token.{Token}
use Rattle.css_model.specs.declared.token.TokenType.{TokenType}
use Rattle.css_model.specs.declared.token.TokenType.TheVariants.{Function, Opening, Closing}
use Rattle.css_model.specs.Classes.{Text}

-- a preserved token, or a simple block or a function with the token that opens it, its contents and
-- the token that closes it, if there is one
mutual
  pub data Component : Type 0 where
    preserved : Token → Component
    simple_block : (head : Token) (contents : Components) (close : Option Token) → Component
    function_block : (head : Token) (contents : Components) (close : Option Token) → Component

  pub data Components : Type 0 where
    no_components : Components
    component : Component → Components → Components

-- the closing token, if there is one
abbrev pub close_tokens : Option Token → List Token
close_tokens None = []
close_tokens (Some t) = t ∷ []

-- the tokens of components, in their order
abbrev mutual
  pub tokens_of : Component → List Token
  tokens_of (preserved t) = t ∷ []
  tokens_of (simple_block head contents close) = head ∷ (all_tokens_of contents ++ close_tokens close)
  tokens_of (function_block head contents close) = head ∷ (all_tokens_of contents ++ close_tokens close)

  pub all_tokens_of : Components → List Token
  all_tokens_of no_components = []
  all_tokens_of (component c cs) = tokens_of c ++ all_tokens_of cs

-- ---- brackets

-- the bracket that a token opens, if it opens one
abbrev pub opened_by : TokenType → Option Bracket
opened_by (Function name) = Some Round
opened_by (Opening b) = Some b
opened_by other = None

-- both are of one kind
abbrev pub is_same_bracket : Bracket → Bracket → Bool
is_same_bracket Round Round = true
is_same_bracket Square Square = true
is_same_bracket Curly Curly = true
is_same_bracket b d = false

-- a token closes the innermost bracket that is open around it, if one is
abbrev pub closes : Option Bracket → TokenType → Bool
closes (Some b) (Closing d) = is_same_bracket b d
closes around token_type = false

-- a bracket ends with the token that closes it, or where the tokens end
abbrev pub IsClosed : Bracket → Option Token → List Token → Type 0
IsClosed b (Some t) rest = t.token_type ≡ Closing b
IsClosed b None rest = rest ≡ []

-- ---- nesting

-- a component is nested rightly inside this open bracket and before these tokens: a preserved token
-- opens nothing and does not close the bracket
abbrev mutual
  pub IsNested : Option Bracket → Component → List Token → Type 0
  IsNested around (preserved t) rest =
      (opened_by t.token_type ≡ None) × (closes around t.token_type ≡ false)
  IsNested around (simple_block head contents close) rest =
      (b : Bracket) × (head.token_type ≡ Opening b)
      × AreNested (Some b) contents (close_tokens close ++ rest) × IsClosed b close rest
  IsNested around (function_block head contents close) rest =
      (name : Text) × (head.token_type ≡ Function name)
      × AreNested (Some Round) contents (close_tokens close ++ rest) × IsClosed Round close rest

  pub AreNested : Option Bracket → Components → List Token → Type 0
  AreNested around no_components rest = Unit {0}
  AreNested around (component c cs) rest =
      IsNested around c (all_tokens_of cs ++ rest) × AreNested around cs rest

-- these are the component values of the tokens
pub record IsComponents (tokens : List Token) (components : Components) : Type 0 where
  pub joined : all_tokens_of components ≡ tokens
  pub nested : AreNested None components []

-- how deep simple blocks and functions nest; an empty one is a level
abbrev mutual
  pub depth : Component → ℕ
  depth (preserved t) = 0
  depth (simple_block head contents close) = suc (depths contents)
  depth (function_block head contents close) = suc (depths contents)

  pub depths : Components → ℕ
  depths no_components = 0
  depths (component c cs) = max (depth c) (depths cs)
