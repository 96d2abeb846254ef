-- Pieces of one code point.
use Rattle.std.proofs.Common.{◌≡◌, ◌∙◌, sym, ap, refl, subst, ℕ, suc, ◌+◌, ◌≤◌, ◌==◌, List, [], ◌∷◌, ◌++◌, length, drop, Bool, true, false, ◌&&◌, ◌||◌, arith, length-append, inl, inr}
use Rattle.std.proofs.lemmas.Bool.{true≢false, false≢true}
use Rattle.std.specs.Prelude.{codes}
use Rattle.std.specs.List.{list_all}
use Rattle.css_model.specs.Classes.{Text, hyphen, backslash, full_stop, is_digit, is_ident_start, is_whitespace, is_quote, is_empty}
use Rattle.css_model.specs.declared.token.TokenType.{TokenType}
use Rattle.css_model.specs.declared.token.TokenType.TheVariants.{Ident, Function, AtKeyword, Hash, String, BadString, Url, BadUrl, Delim, Number, Percentage, Dimension, Whitespace, Cdo, Cdc, Colon, Semicolon, Comma, Opening, Closing}
use Rattle.css_model.specs.declared.place.Place.TheVariants.{InName}
use Rattle.css_model.specs.Parts.{Part, itself, escaped, hex_escape, escaped_newline, escape_at_end, parts_text, AreParts, would_start_ident, follows_hyphen}
use Rattle.css_model.specs.Numerals.{Numeral, fraction_text, exponent_text, numeral_text, IsNumeral}
use Rattle.css_model.specs.Spellings.{IsName, IsUrlHead, single_of, begins_other, IsDelim, Spells}
use Rattle.css_model.specs.TokenList.{Piece, comment, token}
use Rattle.css_model.specs.inner.Pieces.{single_type}
use Rattle.css_model.proofs.Tests.{and-left, and-right, or-cases, or-false-left, or-false-right}
use Rattle.std.specs.Option.{is_some, unwrap_or}
use Rattle.std.specs.Prelude.{Option, Some, None}
use Rattle.css_laws.proofs.SingleTypes.{NoOther, single-no_other, single-is}
use Rattle.css_model.proofs.FirstNames.{some-text}
use Rattle.css_model.proofs.NumeralLemmas.{numeral-unjoined}
use Rattle.css_model.proofs.FirstStrings.{first_or}
use Rattle.css_model.proofs.NumberSizes.{some-length, fraction-length}
use Rattle.css_laws.proofs.Meets.{Meets, meet}

-- a code point with which no longer type begins, before this rest
pub record Alone (c : ℕ) (rest : Text) : Type 0 where
  pub white : is_whitespace c ≡ false
  pub quote : is_quote c ≡ false
  pub digit : is_digit c ≡ false
  pub start : is_ident_start c ≡ false
  pub no_escape : (c == backslash) && is_empty rest ≡ false

-- ---- no names

follows-some : (parts : List Part) → follows_hyphen parts ≡ true → 1 ≤ length (parts_text parts)
follows-some [] h = absurd (false≢true h)
follows-some (itself c ∷ parts) h = omega arith
follows-some (escaped c ∷ parts) h = omega arith
follows-some (hex_escape digits blank ∷ parts) h = omega arith
follows-some (escaped_newline ∷ parts) h = omega arith
follows-some (escape_at_end ∷ parts) h = omega arith

-- after the first of one code point is nothing
tail-none : (d c : ℕ) (xs : Text) → d ∷ xs ≡ c ∷ [] → length xs ≡ 0
tail-none d c xs e = ap (λ ys. length (drop 1 ys)) e

name-longer : (parts : List Part) (c : ℕ) (rest : Text) → Alone c rest → AreParts InName parts rest
    → parts_text parts ≡ c ∷ [] → would_start_ident parts ≡ true → ⊥
name-longer [] c rest a h e i = false≢true i
name-longer (itself d ∷ parts) c rest a h e i =
    elim (or-cases (is_ident_start d) ((d == hyphen) && follows_hyphen parts) i) [
      | inl t ↦ true≢false (sym t ∙ (ap (λ xs. is_ident_start (first_or xs)) e ∙ a.start))
      | inr t ↦
          let some : 1 ≤ length (parts_text parts) =
          follows-some parts (and-right (d == hyphen) (follows_hyphen parts) t) in
          let none : length (parts_text parts) ≡ 0 = tail-none d c (parts_text parts) e in
          absurd (omega (arith, some, none))
    ]
name-longer (escaped d ∷ parts) c rest a h e i = let none : length (d ∷ parts_text parts) ≡ 0 =
    tail-none backslash c (d ∷ parts_text parts) e in absurd (omega (arith, none))
name-longer (hex_escape digits blank ∷ parts) c rest a h e i =
    let some : 1 ≤ length digits = h.1.some in
    let none : length ((digits ++ blank) ++ parts_text parts) ≡ 0 =
    tail-none backslash c ((digits ++ blank) ++ parts_text parts) e in
    let all : length ((digits ++ blank) ++ parts_text parts)
    ≡ length digits + length blank + length (parts_text parts) =
    length-append (digits ++ blank) (parts_text parts)
    ∙ ap (λ n. n + length (parts_text parts)) (length-append digits blank) in
    absurd (omega (arith, some, none, all))
name-longer (escaped_newline ∷ parts) c rest a h e i = false≢true i
name-longer (escape_at_end ∷ parts) c rest a h e i =
    let none : parts_text parts ≡ [] = ap (drop 1) e in
    let end : rest ≡ [] = sym (ap (λ xs. xs ++ rest) none) ∙ h.1 in
    true≢false (sym (ap (λ xs. (first_or xs == backslash) && is_empty rest) (sym e) ∙ ap is_empty end)
    ∙ a.no_escape)

pub name-some : (name : Text) (s rest : Text) → IsName name true s rest → 1 ≤ length s
name-some name s rest h = subst (λ xs. 1 ≤ length xs) (sym h.spelling) (some-text h.parts h.identifier)

pub open-long : (name head s rest : Text) → IsName name true head rest → s ≡ head ++ codes "("
    → 2 ≤ length s
open-long name head s rest h e =
    let some : 1 ≤ length head = name-some name head rest h in
    let size : length s ≡ length head + 1 = ap length e ∙ length-append head (codes "(") in
    omega (arith, some, size)

pub head-long : (s head tail rest : Text) → IsUrlHead head rest → s ≡ head ++ tail → 2 ≤ length s
head-long s head tail rest h e =
    let two : 2 ≤ length head = open-long h.name h.head head (codes "(" ++ rest) h.is_name h.spelling in
    let size : length s ≡ length head + length tail = ap length e ∙ length-append head tail in
    omega (arith, two, size)

no-long : (s : Text) (c : ℕ) → s ≡ c ∷ [] → 2 ≤ length s → ⊥
no-long s c e l = let one : length s ≡ 1 = ap length e in absurd (omega (arith, one, l))

-- ---- no numbers

some-digits : (integer fraction : Text) → is_empty integer && is_empty fraction ≡ false
    → 1 ≤ length integer + length fraction
some-digits [] fraction h = let l : 1 ≤ length fraction = some-length fraction h in omega (arith, l)
some-digits (d ∷ integer) fraction h = omega arith

-- a number of one code point is a digit
digit-alone : (sign integer fraction more : Text) (c : ℕ) → list_all is_digit integer ≡ true
    → is_empty integer && is_empty fraction ≡ false
    → sign ++ (integer ++ (fraction_text fraction ++ more)) ≡ c ∷ [] → is_digit c ≡ true
digit-alone [] [] [] more c w s e = absurd (true≢false s)
digit-alone [] [] (x ∷ xs) more c w s e = let none : length (x ∷ (xs ++ more)) ≡ 0 =
    tail-none full_stop c (x ∷ (xs ++ more)) e in absurd (omega (arith, none))
digit-alone [] (d ∷ ds) fraction more c w s e = ap (λ xs. is_digit (first_or xs)) (sym e)
    ∙ and-left (is_digit d) (list_all is_digit ds) w
digit-alone (g ∷ gs) integer fraction more c w s e =
    let none : length (gs ++ (integer ++ (fraction_text fraction ++ more))) ≡ 0 =
    tail-none g c (gs ++ (integer ++ (fraction_text fraction ++ more))) e in
    let one : length (gs ++ (integer ++ (fraction_text fraction ++ more)))
    ≡ length gs + length (integer ++ (fraction_text fraction ++ more)) =
    length-append gs (integer ++ (fraction_text fraction ++ more)) in
    let two : length (integer ++ (fraction_text fraction ++ more))
    ≡ length integer + length (fraction_text fraction ++ more) =
    length-append integer (fraction_text fraction ++ more) in
    let three : length (fraction_text fraction ++ more) ≡ length (fraction_text fraction) + length more =
    length-append (fraction_text fraction) more in
    let l : length fraction ≤ length (fraction_text fraction) = fraction-length fraction in
    let some : 1 ≤ length integer + length fraction = some-digits integer fraction s in
    absurd (omega (arith, none, one, two, three, l, some))

number-longer : (w : Numeral) (tail s : Text) (c : ℕ) (rest : Text) → Alone c rest → IsNumeral w
    → s ≡ numeral_text w ++ tail → s ≡ c ∷ [] → ⊥
number-longer w tail s c rest a h e l =
    true≢false (sym (digit-alone w.sign w.integer w.fraction
    (exponent_text w ++ tail) c h.integer h.some_digit (sym (numeral-unjoined w tail) ∙ (sym e ∙ l)))
    ∙ a.digit)

-- ---- the code point's own type

pub single-alone : (c : ℕ) (token_type : TokenType) (rest : Text) → single_of c ≡ Some token_type
    → Alone c rest
single-alone c token_type rest e =
    let no : NoOther c = single-no_other c token_type e in
    record {
      white = no.white;
      quote = no.quote;
      digit = no.digit;
      start = no.start;
      no_escape = ap (λ t. t && is_empty rest) no.backslash;
    }

-- a type of the table begins with this code point
abbrev is_listed : ℕ → Bool
is_listed c = is_some (single_of c)

-- a code point of no row is a delimiter
other-delim : (c : ℕ) (found : Option TokenType) → is_some found ≡ false
    → Delim c ≡ unwrap_or found (Delim c)
other-delim c None h = refl
other-delim c (Some token_type) h = absurd (true≢false h)

pub delim-alone : (c : ℕ) (s rest : Text) → IsDelim c s rest → Alone c rest
delim-alone c s rest h =
    let o1 : is_quote c || (is_digit c || (is_ident_start c || is_listed c)) ≡ false =
    or-false-right (is_whitespace c)
    (is_quote c || (is_digit c || (is_ident_start c || is_listed c))) h.other in
    let o2 : is_digit c || (is_ident_start c || is_listed c) ≡ false =
    or-false-right (is_quote c) (is_digit c || (is_ident_start c || is_listed c)) o1 in
    let o3 : is_ident_start c || is_listed c ≡ false =
    or-false-right (is_digit c) (is_ident_start c || is_listed c) o2 in
    record {
      white = or-false-left (is_whitespace c)
          (is_quote c || (is_digit c || (is_ident_start c || is_listed c))) h.other;
      quote = or-false-left (is_quote c) (is_digit c || (is_ident_start c || is_listed c)) o1;
      digit = or-false-left (is_digit c) (is_ident_start c || is_listed c) o2;
      start = or-false-left (is_ident_start c) (is_listed c) o3;
      no_escape = h.no_escape;
    }

delim-type : (c : ℕ) → begins_other c ≡ false → Delim c ≡ single_type c
delim-type c h =
    let o1 : is_quote c || (is_digit c || (is_ident_start c || is_listed c)) ≡ false =
    or-false-right (is_whitespace c)
    (is_quote c || (is_digit c || (is_ident_start c || is_listed c))) h in
    let o2 : is_digit c || (is_ident_start c || is_listed c) ≡ false =
    or-false-right (is_quote c) (is_digit c || (is_ident_start c || is_listed c)) o1 in
    let o3 : is_ident_start c || is_listed c ≡ false =
    or-false-right (is_digit c) (is_ident_start c || is_listed c) o2 in
    other-delim c (single_of c) (or-false-right (is_ident_start c) (is_listed c) o3)

-- the type of a code point that is spelled so
mark-type : (token_type : TokenType) (d c : ℕ) (s : Text) → token_type ≡ single_type d → s ≡ d ∷ []
    → s ≡ c ∷ [] → token_type ≡ single_type c
mark-type token_type d c s k e l = k ∙ ap (λ xs. single_type (first_or xs)) (sym e ∙ l)

quoted-longer : (quote c : ℕ) (xs s rest : Text) → Alone c rest → is_quote quote ≡ true → s ≡ quote ∷ xs
    → s ≡ c ∷ [] → ⊥
quoted-longer quote c xs s rest a q e l =
    true≢false (sym q ∙ (ap (λ ys. is_quote (first_or ys)) (sym e ∙ l) ∙ a.quote))

pub alone-is : (token_type : TokenType) (c : ℕ) (s rest : Text) → Alone c rest → s ≡ c ∷ []
    → Spells token_type s rest → token_type ≡ single_type c
alone-is (Ident name) c s rest a e h =
    absurd (name-longer h.parts c rest a h.are_parts (sym h.spelling ∙ e) h.identifier)
alone-is (Function name) c s rest a e h =
    absurd (no-long s c e (open-long name h.head s (codes "(" ++ rest) h.is_name h.spelling))
alone-is (AtKeyword name) c s rest a e h = let some : 1 ≤ length h.0 = name-some name h.0 rest h.2 in
    let size : length s ≡ suc (length h.0) = ap length h.1 in
    absurd (no-long s c e (omega (arith, some, size)))
alone-is (Hash name is_id) c s rest a e h = let some : 1 ≤ length h.0 = some-length h.0 h.2 in
    let size : length s ≡ suc (length h.0) = ap length h.1 in
    absurd (no-long s c e (omega (arith, some, size)))
alone-is (String value) c s rest a e h =
    absurd (quoted-longer h.quote c (parts_text h.parts ++ h.end) s rest a h.is_quoted h.spelling e)
alone-is BadString c s rest a e h =
    absurd (quoted-longer h.quote c (parts_text h.parts) s rest a h.is_quoted h.spelling e)
alone-is (Url value) c s rest a e h =
    absurd (no-long s c e
    (head-long s h.head (h.before ++ (parts_text h.parts ++ (h.after ++ h.end)))
    (h.before ++ (parts_text h.parts ++ (h.after ++ (h.end ++ rest)))) h.is_head h.spelling))
alone-is BadUrl c s rest a e h =
    absurd (no-long s c e
    (head-long s h.head (parts_text h.parts ++ h.end)
    (parts_text h.parts ++ (h.end ++ rest)) h.is_head h.spelling))
alone-is (Delim d) c s rest a e h = mark-type (Delim d) d c s (delim-type d h.other) h.spelling e
alone-is (Number n) c s rest a e h =
    absurd (number-longer h.numeral [] s c rest a h.is_numeral h.spelling e)
alone-is (Percentage n) c s rest a e h =
    absurd (number-longer h.numeral (codes "%") s c rest a h.is_numeral h.spelling e)
alone-is (Dimension n unit) c s rest a e h =
    absurd (number-longer h.numeral h.tail s c rest a h.is_numeral h.spelling e)
alone-is Whitespace c s rest a e h =
    absurd (true≢false
    (sym (and-left (is_whitespace c) true (ap (list_all is_whitespace) (sym e) ∙ h.0)) ∙ a.white))
alone-is Cdo c s rest a e h = absurd (no-long s c e (subst (λ xs. 2 ≤ length xs) (sym h) (omega arith)))
alone-is Cdc c s rest a e h = absurd (no-long s c e (subst (λ xs. 2 ≤ length xs) (sym h) (omega arith)))
alone-is Colon c s rest a e h = single-is Colon c s h e
alone-is Semicolon c s rest a e h = single-is Semicolon c s h e
alone-is Comma c s rest a e h = single-is Comma c s h e
alone-is (Opening b) c s rest a e h = single-is (Opening b) c s h e
alone-is (Closing b) c s rest a e h = single-is (Closing b) c s h e

-- a single code point is one piece
pub alone-meets : (token_type : TokenType) (c : ℕ) (s rest : Text) → Alone c rest → s ≡ c ∷ []
    → Spells token_type s rest → (q : Piece) → Meets token_type s rest q
alone-meets token_type c s rest a e h (token other t) =
    meet token_type other s t rest
    (λ k. alone-is token_type c s rest a e h ∙ sym (alone-is other c s rest a e k))
alone-meets token_type c s rest a e h (comment t) = λ j k.
    let two : 2 ≤ length t = subst (λ xs. 2 ≤ length xs) (sym k.spelling) (omega arith) in
    let size : length t ≡ 1 = ap length (j ∙ e) in
    absurd (omega (arith, two, size))
