-- No longer piece is in front of a text, where none of any type is.
use Rattle.std.proofs.Common.{◌≡◌, ◌⊎◌, ◌∙◌, sym, ap, refl, subst, ℕ, zero, suc, ◌<◌, ◌≤◌, ◌==◌, List, [], ◌∷◌, ◌++◌, length, Bool, true, false, ◌&&◌, ◌||◌, not, arith, inl, inr}
use Rattle.std.specs.List.{list_all}
use Rattle.std.proofs.lemmas.Bool.{true≢false}
use Rattle.std.specs.Prelude.{codes, get_or}
use Rattle.css_model.specs.declared.place.Place.TheVariants.{InName}
use Rattle.css_model.specs.Classes.{Text, number_sign, solidus, hyphen, full_stop, less_than, commercial_at, backslash, is_digit, is_ident_char, is_sign, is_whitespace, is_quote, begins, has_front}
use Rattle.css_model.specs.Parts.{itself, may_stand, would_start_ident}
use Rattle.css_model.specs.declared.token.Number.{Number as NumberValue}
use Rattle.css_model.specs.declared.token.TokenType.{TokenType}
use Rattle.css_model.specs.declared.token.TokenType.TheVariants.{Ident, Function, AtKeyword, Hash, String, BadString, Url, BadUrl, Delim, Number, Percentage, Dimension, Whitespace, Cdo, Cdc, Colon, Semicolon, Comma, Opening, Closing}
use Rattle.css_model.specs.Spellings.{Spells}
use Rattle.css_model.specs.TokenList.{Piece, comment, token, piece_text, IsComment, IsPiece}
use Rattle.css_model.specs.inner.Fronts.{escape_in, part_in, begins_unsigned, would_start_number}
use Rattle.css_model.proofs.Tests.{and-left, and-right, or-cases, or-none, or-false-left, or-false-right, not-true, pick-false}
use Rattle.css_model.proofs.PartLemmas.{parts_in-stop}
use Rattle.css_model.proofs.Demands.{begins_name, demands, piece-demands}

-- groups of types that demand the same of the text
pub data Group : Type 0 where
  comments : Group
  whites : Group
  quotes : Group
  numbers : Group
  names : Group
  cdcs : Group
  cdos : Group
  hashes : Group
  ats : Group

abbrev pub test : Group → Text → Bool
test comments cs = has_front (codes "/*") cs
test whites cs = begins is_whitespace cs
test quotes cs = begins is_quote cs
test numbers cs = would_start_number cs
test names cs = begins_name cs
test cdcs cs = has_front (codes "-->") cs
test cdos cs = has_front (codes "<!--") cs
test hashes cs = begins (λ c. c == 35) cs
test ats cs = begins (λ c. c == 64) cs

-- no piece of this group in front of the text is longer than k
abbrev pub Bound : Group → Text → ℕ → Type 0
Bound comments cs k = (s behind : Text) → s ++ behind ≡ cs → IsComment s behind → length s ≤ k
Bound whites cs k = (s behind : Text) → s ++ behind ≡ cs → Spells Whitespace s behind → length s ≤ k
Bound quotes cs k =
    ((value : Text) (s behind : Text) → s ++ behind ≡ cs → Spells (String value) s behind → length s ≤ k)
    × ((s behind : Text) → s ++ behind ≡ cs → Spells BadString s behind → length s ≤ k)
Bound numbers cs k =
    ((n : NumberValue) (s behind : Text) → s ++ behind ≡ cs → Spells (Number n) s behind → length s ≤ k)
    × ((n : NumberValue) (s behind : Text) → s ++ behind ≡ cs → Spells (Percentage n) s behind
    → length s ≤ k) × ((n : NumberValue) (unit : Text) (s behind : Text) → s ++ behind ≡ cs
    → Spells (Dimension n unit) s behind → length s ≤ k)
Bound names cs k =
    ((name : Text) (s behind : Text) → s ++ behind ≡ cs → Spells (Ident name) s behind → length s ≤ k)
    × ((name : Text) (s behind : Text) → s ++ behind ≡ cs → Spells (Function name) s behind → length s ≤ k)
    × ((value : Text) (s behind : Text) → s ++ behind ≡ cs → Spells (Url value) s behind → length s ≤ k)
    × ((s behind : Text) → s ++ behind ≡ cs → Spells BadUrl s behind → length s ≤ k)
Bound cdcs cs k = (s behind : Text) → s ++ behind ≡ cs → Spells Cdc s behind → length s ≤ k
Bound cdos cs k = (s behind : Text) → s ++ behind ≡ cs → Spells Cdo s behind → length s ≤ k
Bound hashes cs k = (name : Text) (is_id : Bool) (s behind : Text) → s ++ behind ≡ cs
    → Spells (Hash name is_id) s behind → length s ≤ k
Bound ats cs k = (name : Text) (s behind : Text) → s ++ behind ≡ cs → Spells (AtKeyword name) s behind
    → length s ≤ k

-- each group has no piece there, or none that is longer
abbrev pub Bounds : Text → ℕ → Type 0
Bounds cs k = (g : Group) → (test g cs ≡ false) ⊎ Bound g cs k

bound : (g : Group) (cs : Text) (k : ℕ) → Bounds cs k → test g cs ≡ true → Bound g cs k
bound g cs k bounds t = elim (bounds g) [ inl f ↦ absurd (true≢false (sym t ∙ f)) | inr b ↦ b ]

-- ---- what the first code point tells

abbrev is_group : Group → Group → Bool
is_group comments comments = true
is_group whites whites = true
is_group quotes quotes = true
is_group numbers numbers = true
is_group names names = true
is_group cdcs cdcs = true
is_group cdos cdos = true
is_group hashes hashes = true
is_group ats ats = true
is_group g h = false

-- a piece of this group may begin with this code point
abbrev may_begin : Group → ℕ → Bool
may_begin comments c = c == solidus
may_begin whites c = is_whitespace c
may_begin quotes c = is_quote c
may_begin numbers c = is_digit c || (is_sign c || (c == full_stop))
may_begin names c = is_ident_char c || (c == backslash)
may_begin cdcs c = c == hyphen
may_begin cdos c = c == less_than
may_begin hashes c = c == number_sign
may_begin ats c = c == commercial_at

begins-no_number : (c : ℕ) (cs : Text) → may_begin numbers c ≡ false → would_start_number (c ∷ cs) ≡ false
begins-no_number c cs f =
    let digit : is_digit c ≡ false = or-false-left (is_digit c) (is_sign c || (c == full_stop)) f in
    let others : is_sign c || (c == full_stop) ≡ false =
    or-false-right (is_digit c) (is_sign c || (c == full_stop)) f in
    let sign : is_sign c ≡ false = or-false-left (is_sign c) (c == full_stop) others in
    let stop : c == full_stop ≡ false = or-false-right (is_sign c) (c == full_stop) others in
    ap begins_unsigned (pick-false (is_sign c) cs (c ∷ cs) sign)
    ∙ or-none (is_digit c) ((c == full_stop) && begins is_digit cs) digit
    (ap (λ t. t && begins is_digit cs) stop)

begins-no_name : (c : ℕ) (cs : Text) → may_begin names c ≡ false → begins_name (c ∷ cs) ≡ false
begins-no_name c cs f =
    let char : is_ident_char c ≡ false = or-false-left (is_ident_char c) (c == backslash) f in
    let plain : c == backslash ≡ false = or-false-right (is_ident_char c) (c == backslash) f in
    let part : part_in c cs ≡ itself c = pick-false (c == backslash) (escape_in cs) (itself c) plain in
    ap would_start_ident (parts_in-stop InName c cs (ap (may_stand InName) part ∙ char))

-- no piece of a group is in front where none may begin
begins-none : (g : Group) (c : ℕ) (cs : Text) → may_begin g c ≡ false → test g (c ∷ cs) ≡ false
begins-none comments c cs f = ap (λ t. t && has_front (codes "*") cs) f
begins-none whites c cs f = f
begins-none quotes c cs f = f
begins-none numbers c cs f = begins-no_number c cs f
begins-none names c cs f = begins-no_name c cs f
begins-none cdcs c cs f = ap (λ t. t && has_front (codes "->") cs) f
begins-none cdos c cs f = ap (λ t. t && has_front (codes "!--") cs) f
begins-none hashes c cs f = f
begins-none ats c cs f = f

abbrev groups : List Group
groups = comments ∷ whites ∷ quotes ∷ numbers ∷ names ∷ cdcs ∷ cdos ∷ hashes ∷ ats ∷ []

-- no piece of another group may begin with this code point
abbrev pub only_begins : Group → ℕ → Bool
only_begins g c = list_all (λ h. is_group g h || not (may_begin h c)) groups

passes-at : (check : Group → Bool) (gs : List Group) (n : ℕ) → list_all check gs ≡ true → n < length gs
    → check (get_or gs n comments) ≡ true
passes-at check [] n a l = absurd (omega (arith, l))
passes-at check (g ∷ gs) zero a l = and-left (check g) (list_all check gs) a
passes-at check (g ∷ gs) (suc n) a l =
    passes-at check gs n (and-right (check g) (list_all check gs) a) (omega (arith, l))

passes : (check : Group → Bool) → list_all check groups ≡ true → (g : Group) → check g ≡ true
passes check a comments = passes-at check groups 0 a (omega arith)
passes check a whites = passes-at check groups 1 a (omega arith)
passes check a quotes = passes-at check groups 2 a (omega arith)
passes check a numbers = passes-at check groups 3 a (omega arith)
passes check a names = passes-at check groups 4 a (omega arith)
passes check a cdcs = passes-at check groups 5 a (omega arith)
passes check a cdos = passes-at check groups 6 a (omega arith)
passes check a hashes = passes-at check groups 7 a (omega arith)
passes check a ats = passes-at check groups 8 a (omega arith)

is_group-is : (g h : Group) → is_group g h ≡ true → g ≡ h
is_group-is comments comments e = refl
is_group-is whites whites e = refl
is_group-is quotes quotes e = refl
is_group-is numbers numbers e = refl
is_group-is names names e = refl
is_group-is cdcs cdcs e = refl
is_group-is cdos cdos e = refl
is_group-is hashes hashes e = refl
is_group-is ats ats e = refl
is_group-is g h e = cc

-- where one group alone may begin, it is the one to be bounded
pub bounds-only : (g : Group) (c : ℕ) (cs : Text) (k : ℕ) → only_begins g c ≡ true → Bound g (c ∷ cs) k
    → Bounds (c ∷ cs) k
bounds-only g c cs k only b h =
    elim (or-cases (is_group g h) (not (may_begin h c))
    (passes (λ i. is_group g i || not (may_begin i c)) only h)) [
      | inl t ↦ inr (subst (λ i. Bound i (c ∷ cs) k) (is_group-is g h t) b)
      | inr f ↦ inl (begins-none h c cs (not-true (may_begin h c) f))
    ]

-- ---- no longer piece

token-longest : (cs : Text) (k : ℕ) → 1 ≤ k → Bounds cs k → (token_type : TokenType) (s behind : Text)
    → s ++ behind ≡ cs → IsPiece (token token_type s) behind → length s ≤ k
token-longest cs k l bounds (Ident name) s behind e h =
    (bound names cs k bounds (ap (test names) (sym e) ∙ demands (Ident name) s behind h)).0 name s behind e
    h
token-longest cs k l bounds (Function name) s behind e h =
    (bound names cs k bounds (ap (test names) (sym e) ∙ demands (Function name) s behind h)).1 name s behind
    e h
token-longest cs k l bounds (AtKeyword name) s behind e h =
    (bound ats cs k bounds (ap (test ats) (sym e) ∙ demands (AtKeyword name) s behind h)) name s behind e h
token-longest cs k l bounds (Hash name is_id) s behind e h =
    (bound hashes cs k bounds (ap (test hashes) (sym e) ∙ demands (Hash name is_id) s behind h)) name is_id
    s behind e h
token-longest cs k l bounds (String value) s behind e h =
    (bound quotes cs k bounds (ap (test quotes) (sym e) ∙ demands (String value) s behind h)).0 value s
    behind e h
token-longest cs k l bounds BadString s behind e h =
    (bound quotes cs k bounds (ap (test quotes) (sym e) ∙ demands BadString s behind h)).1 s behind e h
token-longest cs k l bounds (Url value) s behind e h =
    (bound names cs k bounds (ap (test names) (sym e) ∙ demands (Url value) s behind h)).2 value s behind e
    h
token-longest cs k l bounds BadUrl s behind e h =
    (bound names cs k bounds (ap (test names) (sym e) ∙ demands BadUrl s behind h)).3 s behind e h
token-longest cs k l bounds (Number n) s behind e h =
    (bound numbers cs k bounds (ap (test numbers) (sym e) ∙ demands (Number n) s behind h)).0 n s behind e h
token-longest cs k l bounds (Percentage n) s behind e h =
    (bound numbers cs k bounds (ap (test numbers) (sym e) ∙ demands (Percentage n) s behind h)).1 n s behind
    e h
token-longest cs k l bounds (Dimension n unit) s behind e h =
    (bound numbers cs k bounds (ap (test numbers) (sym e) ∙ demands (Dimension n unit) s behind h)).2 n unit
    s behind e h
token-longest cs k l bounds Whitespace s behind e h =
    (bound whites cs k bounds (ap (test whites) (sym e) ∙ demands Whitespace s behind h)) s behind e h
token-longest cs k l bounds Cdo s behind e h =
    (bound cdos cs k bounds (ap (test cdos) (sym e) ∙ demands Cdo s behind h)) s behind e h
token-longest cs k l bounds Cdc s behind e h =
    (bound cdcs cs k bounds (ap (test cdcs) (sym e) ∙ demands Cdc s behind h)) s behind e h
token-longest cs k l bounds (Delim c) s behind e h = let one : length s ≡ 1 =
    demands (Delim c) s behind h in omega (arith, l, one)
token-longest cs k l bounds Colon s behind e h = let one : length s ≡ 1 = demands Colon s behind h in
    omega (arith, l, one)
token-longest cs k l bounds Semicolon s behind e h = let one : length s ≡ 1 =
    demands Semicolon s behind h in omega (arith, l, one)
token-longest cs k l bounds Comma s behind e h = let one : length s ≡ 1 = demands Comma s behind h in
    omega (arith, l, one)
token-longest cs k l bounds (Opening b) s behind e h = let one : length s ≡ 1 =
    demands (Opening b) s behind h in omega (arith, l, one)
token-longest cs k l bounds (Closing b) s behind e h = let one : length s ≡ 1 =
    demands (Closing b) s behind h in omega (arith, l, one)

pub longest : (cs : Text) (k : ℕ) → 1 ≤ k → Bounds cs k → (q : Piece) (behind : Text)
    → piece_text q ++ behind ≡ cs → IsPiece q behind → length (piece_text q) ≤ k
longest cs k l bounds (comment s) behind e h =
    bound comments cs k bounds
    (ap (test comments) (sym e) ∙ piece-demands (comment s) behind h) s behind e h
longest cs k l bounds (token token_type s) behind e h = token-longest cs k l bounds token_type s behind e h
