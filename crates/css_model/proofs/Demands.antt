-- What a piece of each type demands of the front of the text.
use Rattle.std.proofs.Common.{◌≡◌, ◌∙◌, sym, ap, subst, ◌==◌, List, [], ◌∷◌, ◌++◌, length, Bool, true, false, ◌&&◌, append_assoc, inl, inr}
use Rattle.std.proofs.lemmas.Bool.{true≢false, false≢true}
use Rattle.std.specs.Prelude.{codes}
use Rattle.std.specs.List.{list_all}
use Rattle.css_model.specs.Classes.{Text, is_whitespace, is_quote, begins, is_empty, has_front}
use Rattle.css_model.specs.declared.token.TokenType.{TokenType}
use Rattle.css_model.specs.declared.token.TokenType.TheVariants.{Ident, Function, AtKeyword, Hash, String, BadString, Url, BadUrl, Delim, Number, Percentage, Dimension, Whitespace, Cdo, Cdc, Colon, Semicolon, Comma, Opening, Closing}
use Rattle.css_model.specs.declared.place.Place.TheVariants.{InName}
use Rattle.css_model.specs.Parts.{Part, parts_text, would_start_ident, follows_hyphen, starts_name, is_hyphen}
use Rattle.css_model.specs.Numerals.{numeral_text}
use Rattle.css_model.specs.Spellings.{IsName, IsUrlHead}
use Rattle.css_model.specs.TokenList.{Piece, comment, token, piece_text, IsPiece}
use Rattle.css_model.specs.inner.Fronts.{parts_in, would_start_number}
use Rattle.css_model.proofs.Tests.{and-left, and-right, or-left, or-cases}
use Rattle.css_model.proofs.PartLemmas.{parts_in-are}
use Rattle.css_model.proofs.NumeralLemmas.{numeral-begins}

-- a name is in front, and would start an identifier
abbrev pub begins_name : Text → Bool
begins_name cs = would_start_ident (parts_in InName cs)

-- what must be in front of a text that begins with a token of this type
abbrev pub Demands : TokenType → Text → Text → Type 0
Demands (Ident name) s cs = begins_name cs ≡ true
Demands (Function name) s cs = begins_name cs ≡ true
Demands (AtKeyword name) s cs = begins (λ c. c == 64) cs ≡ true
Demands (Hash name is_id) s cs = begins (λ c. c == 35) cs ≡ true
Demands (String value) s cs = begins is_quote cs ≡ true
Demands BadString s cs = begins is_quote cs ≡ true
Demands (Url value) s cs = begins_name cs ≡ true
Demands BadUrl s cs = begins_name cs ≡ true
Demands (Delim c) s cs = length s ≡ 1
Demands (Number n) s cs = would_start_number cs ≡ true
Demands (Percentage n) s cs = would_start_number cs ≡ true
Demands (Dimension n unit) s cs = would_start_number cs ≡ true
Demands Whitespace s cs = begins is_whitespace cs ≡ true
Demands Cdo s cs = has_front (codes "<!--") cs ≡ true
Demands Cdc s cs = has_front (codes "-->") cs ≡ true
Demands Colon s cs = length s ≡ 1
Demands Semicolon s cs = length s ≡ 1
Demands Comma s cs = length s ≡ 1
Demands (Opening b) s cs = length s ≡ 1
Demands (Closing b) s cs = length s ≡ 1

abbrev pub PieceDemands : Piece → Text → Type 0
PieceDemands (comment s) cs = has_front (codes "/*") cs ≡ true
PieceDemands (token token_type s) cs = Demands token_type s cs

-- ---- names

-- more parts leave an identifier one
begins-more : (parts more : List Part) → would_start_ident parts ≡ true
    → would_start_ident (parts ++ more) ≡ true
begins-more [] more h = absurd (false≢true h)
begins-more (p ∷ []) more h = elim (or-cases (starts_name p) (is_hyphen p && false) h) [
  | inl t ↦ or-left (starts_name p) (is_hyphen p && follows_hyphen more) t
  | inr t ↦ absurd (false≢true (and-right (is_hyphen p) false t))
]
begins-more (p ∷ q ∷ parts) more h = h

pub name-demands : (name s rest : Text) → IsName name true s rest → begins_name (s ++ rest) ≡ true
name-demands name s rest h =
    ap (λ xs. begins_name (xs ++ rest)) h.spelling
    ∙ (ap would_start_ident (parts_in-are InName h.parts rest h.are_parts)
    ∙ begins-more h.parts (parts_in InName rest) h.identifier)

-- of a name and what is between it and the rest
head-demands : (name head mark rest s : Text) → s ≡ head ++ mark → IsName name true head (mark ++ rest)
    → begins_name (s ++ rest) ≡ true
head-demands name head mark rest s e h =
    ap begins_name (ap (λ xs. xs ++ rest) e ∙ append_assoc head mark rest)
    ∙ name-demands name head (mark ++ rest) h

url_head-demands : (s tail rest head : Text) → s ≡ head ++ tail → IsUrlHead head (tail ++ rest)
    → begins_name (s ++ rest) ≡ true
url_head-demands s tail rest head e h =
    ap begins_name (ap (λ xs. xs ++ rest) e ∙ append_assoc head tail rest)
    ∙ head-demands h.name h.head (codes "(") (tail ++ rest) head h.spelling h.is_name

-- ---- all types

white-demands : (s rest : Text) → list_all is_whitespace s ≡ true → is_empty s ≡ false
    → begins is_whitespace (s ++ rest) ≡ true
white-demands [] rest a e = absurd (true≢false e)
white-demands (c ∷ s) rest a e = and-left (is_whitespace c) (list_all is_whitespace s) a

pub demands : (token_type : TokenType) (s rest : Text) → IsPiece (token token_type s) rest
    → Demands token_type s (s ++ rest)
demands (Ident name) s rest h = name-demands name s rest h
demands (Function name) s rest h = head-demands name h.head (codes "(") rest s h.spelling h.is_name
demands (AtKeyword name) s rest h = ap (λ xs. begins (λ c. c == 64) (xs ++ rest)) h.1
demands (Hash name is_id) s rest h = ap (λ xs. begins (λ c. c == 35) (xs ++ rest)) h.1
demands (String value) s rest h = ap (λ xs. begins is_quote (xs ++ rest)) h.spelling ∙ h.is_quoted
demands BadString s rest h = ap (λ xs. begins is_quote (xs ++ rest)) h.spelling ∙ h.is_quoted
demands (Url value) s rest h =
    url_head-demands s (h.before ++ (parts_text h.parts ++ (h.after ++ h.end))) rest h.head h.spelling
    (subst (IsUrlHead h.head)
    (sym (append_assoc h.before (parts_text h.parts ++ (h.after ++ h.end)) rest
    ∙ ap (λ xs. h.before ++ xs)
    (append_assoc (parts_text h.parts) (h.after ++ h.end) rest
    ∙ ap (λ xs. parts_text h.parts ++ xs) (append_assoc h.after h.end rest)))) h.is_head)
demands BadUrl s rest h =
    url_head-demands s (parts_text h.parts ++ h.end) rest h.head h.spelling
    (subst (IsUrlHead h.head) (sym (append_assoc (parts_text h.parts) h.end rest)) h.is_head)
demands (Delim c) s rest h = ap length h.spelling
demands (Number n) s rest h = ap (λ xs. would_start_number (xs ++ rest)) h.spelling
    ∙ (ap would_start_number (append_assoc (numeral_text h.numeral) [] rest)
    ∙ numeral-begins h.numeral ([] ++ rest) h.is_numeral)
demands (Percentage n) s rest h = ap (λ xs. would_start_number (xs ++ rest)) h.spelling
    ∙ (ap would_start_number (append_assoc (numeral_text h.numeral) (codes "%") rest)
    ∙ numeral-begins h.numeral (codes "%" ++ rest) h.is_numeral)
demands (Dimension n unit) s rest h = ap (λ xs. would_start_number (xs ++ rest)) h.spelling
    ∙ (ap would_start_number (append_assoc (numeral_text h.numeral) h.tail rest)
    ∙ numeral-begins h.numeral (h.tail ++ rest) h.is_numeral)
demands Whitespace s rest h = white-demands s rest h.0 h.1
demands Cdo s rest h = ap (λ xs. has_front (codes "<!--") (xs ++ rest)) h
demands Cdc s rest h = ap (λ xs. has_front (codes "-->") (xs ++ rest)) h
demands Colon s rest h = ap length h.spelling
demands Semicolon s rest h = ap length h.spelling
demands Comma s rest h = ap length h.spelling
demands (Opening b) s rest h = ap length h.spelling
demands (Closing b) s rest h = ap length h.spelling

pub piece-demands : (q : Piece) (rest : Text) → IsPiece q rest → PieceDemands q (piece_text q ++ rest)
piece-demands (comment s) rest h = ap (λ xs. has_front (codes "/*") (xs ++ rest)) h.spelling
piece-demands (token token_type s) rest h = demands token_type s rest h
