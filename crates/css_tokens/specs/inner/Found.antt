-- The piece that was found in front of a text.
use Rattle.std.specs.Prelude.{◌≡◌, ℕ, List, [], ◌∷◌, length, drop, Option, Some, None}
use Rattle.std.specs.Str.{chars}
use Rattle.css_model.specs.Classes.{Text}
use Rattle.css_model.specs.declared.token.Token.{Token}
use Rattle.css_model.specs.declared.token.TokenType.{TokenType}
use Rattle.css_model.specs.TokenList as model
use Rattle.css_model.specs.TokenList.{piece_text, token_at}
use Rattle.css_tokens.specs.declared.piece.Piece.{Piece}

-- the type of the token that a piece is; a comment is not a token
abbrev pub type_of : model.Piece → Option TokenType
type_of (model.comment s) = None
type_of (model.token token_type s) = Some token_type

-- what was found in front of this text is this piece, by the type of its token and by the text
-- after it
abbrev pub IsFound : Piece → model.Piece → Text → Type 0
IsFound p m text = (p.token_type ≡ type_of m) × (chars p.rest.now ≡ drop (length (piece_text m)) text)

-- the token of this type, place and spelling, if there is a type
abbrev pub tokens_of_type : Option TokenType → ℕ → Text → List Token
tokens_of_type None start s = []
tokens_of_type (Some token_type) start s = token_at start token_type s ∷ []
