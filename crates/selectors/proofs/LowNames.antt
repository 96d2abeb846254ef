-- Names in `An+B` are in ASCII.
use Rattle.std.proofs.Common.{◌≡◌, ◌∙◌, ap, sym, refl, ℕ, ◌<◌, ◌≤◌, ◌==◌, ◌&&◌, nat_lt, not, List, [], ◌∷◌, ◌++◌, map, length, drop, get_or, codes, ℤ, Option, None, true, false, arith, inl, inr, eqb-true}
use Rattle.std.proofs.Math.Utf8.{encodes, encode}
use Rattle.std.proofs.lemmas.Bool.{cases_Bool, cases_lt, false≢true, true≢false}
use Rattle.std.proofs.lemmas.Bool.Decides.{nat_tests}
use Rattle.std.proofs.lemmas.Slice.Eq.{bytes_eq-Decides}
use Rattle.std.specs.Char.{to_ascii_lowercase, eq_ignore_ascii_case}
use Rattle.std.specs.List.{list_all}
use Rattle.std.specs.Str.{str_to_ascii_lowercase, str_eq_ignore_ascii_case}
use Rattle.css_model.specs.declared.token.TokenType.{TokenType}
use Rattle.css_model.specs.Classes.{is_digit, is_empty, hyphen}
use Rattle.css_model.proofs.Tests.{and-left, and-right}
use Rattle.css_tokens.proofs.Utf8Fronts.{low-bytes, high-byte, some-byte}
use Rattle.selectors_model.specs.declared.an_plus_b.AnPlusB.{AnPlusB}
use Rattle.selectors_model.specs.AnPlusBs.{is_n_and_digits, from_n, from_name}
use Rattle.selectors.specs.inner.Numbers.{is_low}

-- ---- what is not in ASCII is no such name

lower-low : (xs ys : List ℕ) → map to_ascii_lowercase xs ≡ ys → is_low ys ≡ true → is_low xs ≡ true
lower-low [] ys e l = refl
lower-low (x ∷ xs) [] e l = cc
lower-low (x ∷ xs) (y ∷ ys) e l =
    let head : to_ascii_lowercase x ≡ y = ap (λ zs. get_or zs 0 0) e in
    let tail : map to_ascii_lowercase xs ≡ ys = ap (drop 1) e in
    let below : nat_lt y 128 ≡ true = and-left (nat_lt y 128) (is_low ys) l in
    let here : nat_lt x 128 ≡ true = grind (arith, nat_tests, head, below) in
    rw here (lower-low xs ys tail (and-right (nat_lt y 128) (is_low ys) l))

word-high : (xs word : List ℕ) → is_low (str_to_ascii_lowercase word) ≡ true → is_low xs ≡ false
    → str_eq_ignore_ascii_case xs word ≡ false
word-high xs word w h = elim (cases_Bool (str_eq_ignore_ascii_case xs word)) [
  | inl t ↦
      let same : map to_ascii_lowercase xs ≡ str_to_ascii_lowercase word = (bytes_eq-Decides (str_to_ascii_lowercase xs) (str_to_ascii_lowercase word)).0 t in
      absurd (true≢false (sym (lower-low xs (str_to_ascii_lowercase word) same w) ∙ h))
  | inr f ↦ f
]

digit-low : (c : ℕ) → is_digit c ≡ true → nat_lt c 128 ≡ true
digit-low c e = grind (arith, nat_tests, e)

all-low : (cs : List ℕ) → list_all is_digit cs ≡ true → is_low cs ≡ true
all-low [] e = refl
all-low (c ∷ cs) e =
    rw (digit-low c (and-left (is_digit c) (list_all is_digit cs) e)) (all-low cs (and-right (is_digit c) (list_all is_digit cs) e))

n-low : (c : ℕ) → eq_ignore_ascii_case 110 c ≡ true → nat_lt c 128 ≡ true
n-low c e = grind (arith, nat_tests, e)

hyphen-low : (c : ℕ) → eq_ignore_ascii_case 45 c ≡ true → nat_lt c 128 ≡ true
hyphen-low c e = grind (arith, nat_tests, e)

digits-low : (xs : List ℕ) → is_n_and_digits xs ≡ true → is_low xs ≡ true
digits-low [] e = absurd (false≢true e)
digits-low (a ∷ []) e =
    absurd (false≢true (and-right (eq_ignore_ascii_case 110 a) false (and-left (eq_ignore_ascii_case 110 a && false) false e)))
digits-low (a ∷ b ∷ ds) e =
    let front : (eq_ignore_ascii_case 110 a && (eq_ignore_ascii_case 45 b && true)) ≡ true =
    and-left (eq_ignore_ascii_case 110 a && (eq_ignore_ascii_case 45 b && true)) (list_all is_digit ds && not (is_empty ds)) e in
    let back : list_all is_digit ds ≡ true =
    and-left (list_all is_digit ds) (not (is_empty ds)) (and-right (eq_ignore_ascii_case 110 a && (eq_ignore_ascii_case 45 b && true)) (list_all is_digit ds && not (is_empty ds)) e) in
    rw (
      n-low a (and-left (eq_ignore_ascii_case 110 a) (eq_ignore_ascii_case 45 b && true) front),
      hyphen-low b (and-left (eq_ignore_ascii_case 45 b) true (and-right (eq_ignore_ascii_case 110 a) (eq_ignore_ascii_case 45 b && true) front)),
    )
    (all-low ds back)

digits-high : (xs : List ℕ) → is_low xs ≡ false → is_n_and_digits xs ≡ false
digits-high xs h = elim (cases_Bool (is_n_and_digits xs)) [
  | inl t ↦ absurd (true≢false (sym (digits-low xs t) ∙ h))
  | inr f ↦ f
]

from_n-high : (a : ℤ) (ts : List TokenType) (xs : List ℕ) → is_low xs ≡ false → from_n a xs ts ≡ None
from_n-high a ts xs h = rw (word-high xs (codes "n") refl h, word-high xs (codes "n-") refl h, digits-high xs h) refl

tail-high : (c : ℕ) (xs : List ℕ) → is_low (c ∷ xs) ≡ false → (c == hyphen) ≡ true → is_low xs ≡ false
tail-high c xs h e = let is : c ≡ hyphen = eqb-true c hyphen e in rw is at h

from_name-high : (ts : List TokenType) (xs : List ℕ) → is_low xs ≡ false → from_name xs ts ≡ None
from_name-high ts [] h = refl
from_name-high ts (c ∷ xs) h =
    rw (word-high (c ∷ xs) (codes "odd") refl h, word-high (c ∷ xs) (codes "even") refl h) (elim (cases_Bool (c == hyphen)) [
      | inl t ↦ rw t (from_n-high _ ts xs (tail-high c xs h t))
      | inr f ↦ rw f (from_n-high _ ts (c ∷ xs) h)
    ])

-- ---- texts and their bytes

front-high : (bs rest : List ℕ) → 0 < length bs → 128 ≤ get_or bs 0 0 → is_low (bs ++ rest) ≡ false
front-high [] rest l h = absurd (omega (arith, l))
front-high (b ∷ bs) rest l h = let here : nat_lt b 128 ≡ false = grind (arith, nat_tests, h) in rw here refl

bytes-low : (name : List ℕ) → is_low (encodes name) ≡ is_low name
bytes-low [] = refl
bytes-low (c ∷ cs) = elim (cases_lt c 128) [
  | inl low ↦ rw (low-bytes c cs low) (ap (λ b. nat_lt c 128 && b) (bytes-low cs))
  | inr high ↦
      let here : nat_lt c 128 ≡ false = grind (arith, nat_tests, high) in
      front-high (encode c) (encodes cs) (some-byte c) (high-byte c 0 high (some-byte c)) ∙ sym (ap (λ b. b && is_low cs) here)
]

same-low : (name : List ℕ) → is_low name ≡ true → encodes name ≡ name
same-low [] e = refl
same-low (c ∷ cs) e =
    let low : c < 128 = grind (arith, nat_tests, and-left (nat_lt c 128) (is_low cs) e) in
    low-bytes c cs low ∙ ap (λ l. c ∷ l) (same-low cs (and-right (nat_lt c 128) (is_low cs) e))

text-same : (f : List ℕ → Option AnPlusB) → ((xs : List ℕ) → is_low xs ≡ false → f xs ≡ None)
    → (name : List ℕ) → f (encodes name) ≡ f name
text-same f none name = elim (cases_Bool (is_low name)) [
  | inl t ↦ ap f (same-low name t)
  | inr h ↦ none (encodes name) (bytes-low name ∙ h) ∙ sym (none name h)
]

pub from_n-text : (a : ℤ) (ts : List TokenType) (name : List ℕ) → from_n a (encodes name) ts ≡ from_n a name ts
from_n-text a ts name = text-same (λ n. from_n a n ts) (from_n-high a ts) name

pub from_name-text : (ts : List TokenType) (name : List ℕ) → from_name (encodes name) ts ≡ from_name name ts
from_name-text ts name = text-same (λ n. from_name n ts) (from_name-high ts) name
