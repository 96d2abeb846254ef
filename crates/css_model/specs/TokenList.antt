-- The token list of a text: the text is divided into comments and tokens, each as long as it can be
-- (CSS Syntax 3, sections 4.3.1 and 4.3.2).
use Rattle.std.specs.Prelude.{◌≡◌, ℕ, ◌+◌, ◌≤◌, ◌||◌, List, [], ◌∷◌, ◌++◌, length, codes, flat_map, Bool, false}
use Rattle.css_model.specs.declared.token.Token.{Token}
use Rattle.css_model.specs.declared.token.TokenType.{TokenType}
use Rattle.css_model.specs.Classes.{Text, has_front}
use Rattle.css_model.specs.Preprocessing.{preprocessed}
use Rattle.css_model.specs.Spellings.{IsEnd, Spells}

-- a piece of a text, with its spelling
pub data Piece : Type 0 where
  comment : (spelling : Text) → Piece
  token : (token_type : TokenType) (spelling : Text) → Piece

-- the spelling of a piece
abbrev pub piece_text : Piece → Text
piece_text (comment s) = s
piece_text (token token_type s) = s

-- the spellings of pieces, one after another
abbrev pub pieces_text : List Piece → Text
pieces_text pieces = flat_map piece_text pieces

-- ---- comments

-- `*/` stands somewhere in the text
abbrev pub has_comment_end : Text → Bool
has_comment_end [] = false
has_comment_end (c ∷ cs) = has_front (codes "*/") (c ∷ cs) || has_comment_end cs

-- `/*`, and all up to the first `*/` after it
pub record IsComment (s rest : Text) : Type 0 where
  pub inside : Text
  pub end : Text
  pub spelling : s ≡ codes "/*" ++ (inside ++ end)
  pub no_end_inside : has_comment_end inside ≡ false
  pub ends : IsEnd (codes "*/") end rest

-- ---- pieces

-- this is a piece, before `rest`
abbrev pub IsPiece : Piece → Text → Type 0
IsPiece (comment s) rest = IsComment s rest
IsPiece (token token_type s) rest = Spells token_type s rest

-- no longer piece begins at the same place
abbrev pub IsLongest : Piece → Text → Type 0
IsLongest p rest =
    (q : Piece) (after : Text) → piece_text p ++ rest ≡ piece_text q ++ after → IsPiece q after
    → length (piece_text q) ≤ length (piece_text p)

-- each of these is a piece, and the longest at its place
abbrev pub ArePieces : List Piece → Type 0
ArePieces [] = Unit {0}
ArePieces (p ∷ pieces) =
    IsPiece p (pieces_text pieces) × IsLongest p (pieces_text pieces) × ArePieces pieces

-- ---- the list

-- the token of this type and spelling that starts at this place
abbrev pub token_at : ℕ → TokenType → Text → Token
token_at start token_type s =
    record { token_type = token_type; start = start; end = start + length s; spelling = s }

-- the tokens of these pieces, where the first piece starts at this place
abbrev pub tokens_from : ℕ → List Piece → List Token
tokens_from start [] = []
tokens_from start (comment s ∷ pieces) = tokens_from (start + length s) pieces
tokens_from start (token token_type s ∷ pieces) =
    token_at start token_type s ∷ tokens_from (start + length s) pieces

-- these are the tokens of the text
pub record IsTokenList (text : Text) (tokens : List Token) : Type 0 where
  pub pieces : List Piece
  pub joined : pieces_text pieces ≡ preprocessed text
  pub are_pieces : ArePieces pieces
  pub tokens_are : tokens_from 0 pieces ≡ tokens
