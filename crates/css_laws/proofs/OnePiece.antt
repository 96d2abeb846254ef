-- A piece that is the longest at its place is the one that is computed.
use Rattle.std.proofs.Common.{◌≡◌, ◌∙◌, sym, ap, refl, subst, ℕ, suc, ◌+◌, ◌≤◌, List, [], ◌∷◌, ◌++◌, length, drop, Bool, true, not, arith, length-append}
use Rattle.std.proofs.lemmas.Bool.{false≢true, cond_both}
use Rattle.std.specs.Prelude.{codes, if◌then◌else◌}
use Rattle.css_model.specs.Classes.{Text, is_whitespace, is_quote, begins, is_empty, has_front}
use Rattle.css_model.specs.declared.token.TokenType.{TokenType}
use Rattle.css_model.specs.declared.token.TokenType.TheVariants.{Ident, Function, AtKeyword, Hash, String, BadString, Url, BadUrl, Delim, Number, Percentage, Dimension, Whitespace, Cdo, Cdc, Colon, Semicolon, Comma, Opening, Closing}
use Rattle.css_model.specs.declared.place.Place.TheVariants.{InName}
use Rattle.css_model.specs.Parts.{Part, parts_text, meanings, would_start_ident}
use Rattle.css_model.specs.Spellings.{IsName, IsSingle, Spells}
use Rattle.css_model.specs.TokenList.{Piece, comment, token, piece_text, IsComment, IsPiece, IsLongest}
use Rattle.css_model.specs.inner.Fronts.{run_in, parts_in}
use Rattle.css_model.specs.inner.Pieces.{consume_string, consume_comment, single_piece, marked_piece, other_piece}
use Rattle.css_model.proofs.Tests.{pick-true}
use Rattle.css_model.proofs.PartLemmas.{parts_in-stop}
use Rattle.css_model.proofs.Demands.{demands}
use Rattle.css_model.proofs.FirstPieces.{pieces-first}
use Rattle.css_model.proofs.FirstStrings.{first_or}
use Rattle.css_model.proofs.Laws.{IsFirst}
use Rattle.css_model.proofs.NumberPieces.{numbers-first as computed-numbers}
use Rattle.css_model.proofs.NumberSizes.{some-length}
use Rattle.css_laws.proofs.Alone.{name-some, delim-alone, single-alone, alone-meets}
use Rattle.css_laws.proofs.Branches.{first_of, number_or_other}
use Rattle.css_laws.proofs.Meets.{Meets, meet, name-same}
use Rattle.css_laws.proofs.NamesAlike.{ident-are, function-are, url-are, bad_url-are, names-first}
use Rattle.css_laws.proofs.NumbersAlike.{number-are, percentage-are, dimension-are, numbers-first}
use Rattle.css_laws.proofs.StringsAlike.{string-are, bad_string-are, strings-first}

-- ---- whitespace, comments, `<!--` and `-->`

white-meets : (s rest cs : Text) → begins is_whitespace cs ≡ true → Meets Whitespace s rest (first_of cs)
white-meets s rest [] h = absurd (false≢true h)
white-meets s rest (c ∷ cs) h =
    let other : Piece =
    if is_quote c then consume_string c cs else
    (if has_front (codes "/*") (c ∷ cs) then consume_comment (drop 1 cs) else number_or_other c cs) in
    subst (Meets Whitespace s rest)
    (sym (pick-true (is_whitespace c) (token Whitespace (run_in is_whitespace (c ∷ cs))) other h))
    (meet _ _ _ _ rest (λ k. refl))

comment-is : (s rest : Text) → IsComment s rest → piece_text (first_of (s ++ rest)) ≡ s
    → comment s ≡ first_of (s ++ rest)
comment-is s rest h =
    subst (λ xs. piece_text (first_of (xs ++ rest)) ≡ xs → comment xs ≡ first_of (xs ++ rest))
    (sym h.spelling) (λ e. ap comment (sym e))

cdo-is : (s rest : Text) → s ≡ codes "<!--" → token Cdo s ≡ first_of (s ++ rest)
cdo-is s rest e =
    subst (λ xs. token Cdo xs ≡ first_of (xs ++ rest)) (sym e)
    (ap (λ ps. other_piece ps 60 (codes "!--" ++ rest))
    (sym (parts_in-stop InName 60 (codes "!--" ++ rest) refl)))

cdc-is : (s rest : Text) → s ≡ codes "-->" → token Cdc s ≡ first_of (s ++ rest)
cdc-is s rest e = subst (λ xs. token Cdc xs ≡ first_of (xs ++ rest)) (sym e) refl

-- ---- `#` and `@`

-- a mark with something after it is not single
mark-longer : (m d : ℕ) (s tail : Text) → s ≡ m ∷ tail → 1 ≤ length tail → d ∷ [] ≡ s → ⊥
mark-longer m d s tail e l j =
    let one : length s ≡ 1 = ap length (sym j) in
    let size : length s ≡ suc (length tail) = ap length e in
    absurd (omega (arith, l, one, size))

hash-same : (a b : Text) (i j : Bool) (s rest : Text) → Spells (Hash a i) s rest → Spells (Hash b j) s rest
    → Hash a i ≡ Hash b j
hash-same a b i j s rest h k =
    let tail : h.0 ≡ k.0 = ap (drop 1) (sym h.1 ∙ k.1) in
    let same : (a ≡ b) × (i ≡ j) =
    name-same a b i j h.0 rest h.3 (subst (λ x. IsName b j x rest) (sym tail) k.3) in
    λ t. Hash (same.0 t) (same.1 t)

hash-meets : (name : Text) (is_id : Bool) (s rest : Text) → Spells (Hash name is_id) s rest
    → (parts : List Part) → Meets (Hash name is_id) s rest (marked_piece 35 parts)
hash-meets name is_id s rest h parts =
    cond_both (not (is_empty (parts_text parts)))
    (token (Hash (meanings InName parts) (would_start_ident parts)) (codes "#" ++ parts_text parts))
    (single_piece 35) (Meets (Hash name is_id) s rest)
    (λ t. meet _ _ _ _ rest
    (hash-same name (meanings InName parts) is_id (would_start_ident parts) s rest h))
    (λ n j k. absurd (mark-longer 35 35 s h.0 h.1 (some-length h.0 h.2) j))

hash-first : (name : Text) (is_id : Bool) (s rest : Text) → Spells (Hash name is_id) s rest
    → Meets (Hash name is_id) s rest (first_of (s ++ rest))
hash-first name is_id s rest h =
    let behind : Text = h.0 ++ rest in
    let front : first_of (35 ∷ behind) ≡ marked_piece 35 (parts_in InName behind) =
    ap (λ ps. other_piece ps 35 behind) (parts_in-stop InName 35 behind refl) in
    subst (Meets (Hash name is_id) s rest) (sym (ap (λ xs. first_of (xs ++ rest)) h.1 ∙ front))
    (hash-meets name is_id s rest h (parts_in InName behind))

at-same : (a b : Text) (s rest : Text) → Spells (AtKeyword a) s rest → Spells (AtKeyword b) s rest
    → AtKeyword a ≡ AtKeyword b
at-same a b s rest h k =
    let tail : h.0 ≡ k.0 = ap (drop 1) (sym h.1 ∙ k.1) in
    ap AtKeyword ((name-same a b true true h.0 rest h.2
    (subst (λ x. IsName b true x rest) (sym tail) k.2)).0)

at-meets : (name : Text) (s rest : Text) → Spells (AtKeyword name) s rest → (parts : List Part)
    → Meets (AtKeyword name) s rest (marked_piece 64 parts)
at-meets name s rest h parts =
    cond_both (would_start_ident parts)
    (token (AtKeyword (meanings InName parts)) (codes "@" ++ parts_text parts)) (single_piece 64)
    (Meets (AtKeyword name) s rest)
    (λ t. meet _ _ _ _ rest (at-same name (meanings InName parts) s rest h))
    (λ n j k. absurd (mark-longer 64 64 s h.0 h.1 (name-some name h.0 rest h.2) j))

at-first : (name : Text) (s rest : Text) → Spells (AtKeyword name) s rest
    → Meets (AtKeyword name) s rest (first_of (s ++ rest))
at-first name s rest h =
    let behind : Text = h.0 ++ rest in
    let front : first_of (64 ∷ behind) ≡ marked_piece 64 (parts_in InName behind) =
    ap (λ ps. other_piece ps 64 behind) (parts_in-stop InName 64 behind refl) in
    subst (Meets (AtKeyword name) s rest) (sym (ap (λ xs. first_of (xs ++ rest)) h.1 ∙ front))
    (at-meets name s rest h (parts_in InName behind))

-- ---- all types

-- a token of one code point
single-meets : (token_type : TokenType) (s rest : Text) → IsSingle token_type s → Spells token_type s rest
    → Meets token_type s rest (first_of (s ++ rest))
single-meets token_type s rest i h =
    alone-meets token_type i.c s rest (single-alone i.c token_type rest i.is) i.spelling h
    (first_of (s ++ rest))

token-meets : (token_type : TokenType) (s rest : Text) → Spells token_type s rest
    → Meets token_type s rest (first_of (s ++ rest))
token-meets (Ident name) s rest h =
    names-first (Ident name) s rest (ident-are name s rest h) (s ++ rest) (demands (Ident name) s rest h)
token-meets (Function name) s rest h =
    names-first (Function name) s rest (function-are name s rest h) (s ++ rest)
    (demands (Function name) s rest h)
token-meets (AtKeyword name) s rest h = at-first name s rest h
token-meets (Hash name is_id) s rest h = hash-first name is_id s rest h
token-meets (String value) s rest h =
    strings-first (String value) s rest (string-are value s rest h) (s ++ rest)
    (demands (String value) s rest h)
token-meets BadString s rest h =
    strings-first BadString s rest (bad_string-are s rest h) (s ++ rest) (demands BadString s rest h)
token-meets (Url value) s rest h =
    names-first (Url value) s rest (url-are value s rest h) (s ++ rest) (demands (Url value) s rest h)
token-meets BadUrl s rest h =
    names-first BadUrl s rest (bad_url-are s rest h) (s ++ rest) (demands BadUrl s rest h)
token-meets (Delim c) s rest h =
    alone-meets (Delim c) c s rest (delim-alone c s rest h) h.spelling h (first_of (s ++ rest))
token-meets (Number n) s rest h =
    numbers-first (Number n) s rest (number-are n s rest h) (s ++ rest) (demands (Number n) s rest h)
token-meets (Percentage n) s rest h =
    numbers-first (Percentage n) s rest (percentage-are n s rest h) (s ++ rest)
    (demands (Percentage n) s rest h)
token-meets (Dimension n unit) s rest h =
    numbers-first (Dimension n unit) s rest (dimension-are n unit s rest h) (s ++ rest)
    (demands (Dimension n unit) s rest h)
token-meets Whitespace s rest h = white-meets s rest (s ++ rest) (demands Whitespace s rest h)
token-meets Cdo s rest h = λ e k. cdo-is s rest h
token-meets Cdc s rest h = λ e k. cdc-is s rest h
token-meets Colon s rest h = single-meets Colon s rest h h
token-meets Semicolon s rest h = single-meets Semicolon s rest h h
token-meets Comma s rest h = single-meets Comma s rest h h
token-meets (Opening b) s rest h = single-meets (Opening b) s rest h h
token-meets (Closing b) s rest h = single-meets (Closing b) s rest h h

piece-meets : (p : Piece) (rest : Text) → IsPiece p rest
    → piece_text (first_of (piece_text p ++ rest)) ≡ piece_text p
    → IsPiece (first_of (piece_text p ++ rest)) rest → p ≡ first_of (piece_text p ++ rest)
piece-meets (comment s) rest h e k = comment-is s rest h e
piece-meets (token token_type s) rest h e k = token-meets token_type s rest h e k

-- ---- the longest piece

-- two fronts of one length
pub record OneFront (s t rest behind : Text) : Type 0 where
  pub front : s ≡ t
  pub left : rest ≡ behind

one-front : (s t rest behind : Text) → s ++ rest ≡ t ++ behind → length s ≡ length t
    → OneFront s t rest behind
one-front [] [] rest behind e l = record { front = refl; left = e }
one-front [] (d ∷ t) rest behind e l = absurd (omega (arith, l))
one-front (c ∷ s) [] rest behind e l = absurd (omega (arith, l))
one-front (c ∷ s) (d ∷ t) rest behind e l =
    let more : OneFront s t rest behind = one-front s t rest behind (ap (drop 1) e) (omega (arith, l)) in
    record { front = λ j. first_or (e j) ∷ more.front j; left = more.left }

computed-first : (cs : Text) → 1 ≤ length cs → IsFirst (first_of cs) cs
computed-first [] l = absurd (omega (arith, l))
computed-first (c ∷ cs) l = pieces-first computed-numbers c cs

-- a piece in front, where no longer one is, is the one that is computed
pub piece-is : (p : Piece) (rest : Text) → 1 ≤ length (piece_text p) → IsPiece p rest → IsLongest p rest
    → p ≡ first_of (piece_text p ++ rest)
piece-is p rest some h long =
    let cs : Text = piece_text p ++ rest in
    let size : length cs ≡ length (piece_text p) + length rest = length-append (piece_text p) rest in
    let first : IsFirst (first_of cs) cs = computed-first cs (omega (arith, some, size)) in
    let a : length (piece_text (first_of cs)) ≤ length (piece_text p) =
    long (first_of cs) first.rest (sym first.joins) first.is in
    let b : length (piece_text p) ≤ length (piece_text (first_of cs)) = first.longest p rest refl h in
    let same : OneFront (piece_text (first_of cs)) (piece_text p) first.rest rest =
    one-front (piece_text (first_of cs)) (piece_text p) first.rest rest first.joins
    (omega (arith, a, b)) in
    piece-meets p rest h same.front (subst (IsPiece (first_of cs)) same.left first.is)
