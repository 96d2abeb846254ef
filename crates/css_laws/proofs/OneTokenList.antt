-- A text has one token list.
use Rattle.std.proofs.Common.{◌≡◌, ◌∙◌, sym, ap, refl, subst, pred, ◌+◌, ◌≤◌, List, [], ◌∷◌, ◌++◌, length, drop, arith, length-append}
use Rattle.std.specs.Prelude.{codes}
use Rattle.css_model.specs.Classes.{Text}
use Rattle.css_model.specs.declared.token.Token.{Token}
use Rattle.css_model.specs.declared.token.TokenType.{TokenType}
use Rattle.css_model.specs.declared.token.TokenType.TheVariants.{Ident, Function, AtKeyword, Hash, String, BadString, Url, BadUrl, Delim, Number, Percentage, Dimension, Whitespace, Cdo, Cdc, Colon, Semicolon, Comma, Opening, Closing}
use Rattle.css_model.specs.Numerals.{Numeral, numeral_text, IsNumeral}
use Rattle.css_model.specs.Spellings.{Spells}
use Rattle.css_model.specs.TokenList.{Piece, comment, token, piece_text, pieces_text, IsPiece, ArePieces, tokens_from, IsTokenList}
use Rattle.css_model.specs.inner.Pieces.{pieces, tokens}
use Rattle.css_model.proofs.Laws.{pieces-nil, pieces-cons, behind-first}
use Rattle.css_model.proofs.NumberPieces.{numeral-some}
use Rattle.css_model.proofs.NumberSizes.{some-length}
use Rattle.css_laws.proofs.Alone.{name-some, open-long, head-long}
use Rattle.css_laws.proofs.Branches.{first_of}
use Rattle.css_laws.proofs.OnePiece.{piece-is}

-- ---- a piece is not empty

written-some : (s t : Text) → s ≡ t → 1 ≤ length t → 1 ≤ length s
written-some s t e l = subst (λ xs. 1 ≤ length xs) (sym e) l

number-some : (w : Numeral) (tail s : Text) → IsNumeral w → s ≡ numeral_text w ++ tail → 1 ≤ length s
number-some w tail s h e =
    let some : 1 ≤ length (numeral_text w) = numeral-some w h in
    let size : length s ≡ length (numeral_text w) + length tail = ap length e
    ∙ length-append (numeral_text w) tail in
    omega (arith, some, size)

two-some : (s : Text) → 2 ≤ length s → 1 ≤ length s
two-some s l = omega (arith, l)

token-some : (token_type : TokenType) (s rest : Text) → Spells token_type s rest → 1 ≤ length s
token-some (Ident name) s rest h = name-some name s rest h
token-some (Function name) s rest h =
    two-some s (open-long name h.head s (codes "(" ++ rest) h.is_name h.spelling)
token-some (AtKeyword name) s rest h = written-some s (codes "@" ++ h.0) h.1 (omega arith)
token-some (Hash name is_id) s rest h = written-some s (codes "#" ++ h.0) h.1 (omega arith)
token-some (String value) s rest h = written-some s _ h.spelling (omega arith)
token-some BadString s rest h = written-some s _ h.spelling (omega arith)
token-some (Url value) s rest h = two-some s (head-long s h.head _ _ h.is_head h.spelling)
token-some BadUrl s rest h = two-some s (head-long s h.head _ _ h.is_head h.spelling)
token-some (Delim c) s rest h = written-some s (c ∷ []) h.spelling (omega arith)
token-some (Number n) s rest h = number-some h.numeral [] s h.is_numeral h.spelling
token-some (Percentage n) s rest h = number-some h.numeral (codes "%") s h.is_numeral h.spelling
token-some (Dimension n unit) s rest h = number-some h.numeral h.tail s h.is_numeral h.spelling
token-some Whitespace s rest h = some-length s h.1
token-some Cdo s rest h = written-some s (codes "<!--") h (omega arith)
token-some Cdc s rest h = written-some s (codes "-->") h (omega arith)
token-some Colon s rest h = written-some s (h.c ∷ []) h.spelling (omega arith)
token-some Semicolon s rest h = written-some s (h.c ∷ []) h.spelling (omega arith)
token-some Comma s rest h = written-some s (h.c ∷ []) h.spelling (omega arith)
token-some (Opening b) s rest h = written-some s (h.c ∷ []) h.spelling (omega arith)
token-some (Closing b) s rest h = written-some s (h.c ∷ []) h.spelling (omega arith)

piece-some : (p : Piece) (rest : Text) → IsPiece p rest → 1 ≤ length (piece_text p)
piece-some (comment s) rest h = written-some s (codes "/*" ++ (h.inside ++ h.end)) h.spelling (omega arith)
piece-some (token token_type s) rest h = token-some token_type s rest h

-- ---- the pieces

-- the computed pieces of a text that begins with this piece
pieces-at : (p : Piece) (rest cs : Text) → piece_text p ++ rest ≡ cs → 1 ≤ length (piece_text p)
    → p ≡ first_of cs → pieces cs ≡ p ∷ pieces rest
pieces-at p rest [] e l f =
    let none : length (piece_text p ++ rest) ≡ 0 = ap length e in
    let size : length (piece_text p ++ rest) ≡ length (piece_text p) + length rest =
    length-append (piece_text p) rest in
    absurd (omega (arith, l, none, size))
pieces-at p rest (c ∷ cs) e l f =
    pieces-cons c cs
    ∙ (ap (λ q. q ∷ pieces (drop (pred (length (piece_text q))) cs)) (sym f)
    ∙ ap (λ xs. p ∷ pieces xs) (behind-first (piece_text p) rest c cs e l))

pieces-are : (ps : List Piece) → ArePieces ps → ps ≡ pieces (pieces_text ps)
pieces-are [] h = sym pieces-nil
pieces-are (p ∷ ps) h =
    let rest : Text = pieces_text ps in
    let some : 1 ≤ length (piece_text p) = piece-some p rest h.0 in
    ap (λ qs. p ∷ qs) (pieces-are ps h.2)
    ∙ sym (pieces-at p rest (piece_text p ++ rest) refl some (piece-is p rest some h.0 h.1))

-- ---- the law

-- any token list of a text is the computed one
pub token_list-is : (text : Text) (these : List Token) → IsTokenList text these → these ≡ tokens text
token_list-is text these h = sym h.tokens_are
    ∙ ap (tokens_from 0) (pieces-are h.pieces h.are_pieces ∙ ap pieces h.joined)

pub one-token_list : (text : Text) (these those : List Token) → IsTokenList text these
    → IsTokenList text those → these ≡ those
one-token_list text these those h k = token_list-is text these h ∙ sym (token_list-is text those k)
