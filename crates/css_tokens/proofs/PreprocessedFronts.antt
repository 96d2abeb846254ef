-- A text is preprocessed character by character.
use Rattle.std.proofs.Common.{◌≡◌, ◌∙◌, sym, ap, refl, ℕ, ◌==◌, ◌&&◌, ◌≤◌, not, Bool, List, [], ◌∷◌, ◌++◌, true, false, eqb-true, arith, inl, inr}
use Rattle.std.proofs.lemmas.Bool.{cases_Bool, cases_lt, false≢true}
use Rattle.std.proofs.lemmas.Bool.Decides.{nat_tests}
use Rattle.std.proofs.lemmas.Str.{encodes-chars}
use Rattle.std.proofs.Math.Utf8.{encodes, encode}
use Rattle.std.specs.List.{list_all}
use Rattle.std.specs.Str.{chars, IsUtf8}
use Rattle.css_model.proofs.Tests.{and-left, and-right}
use Rattle.css_tokens.proofs.Utf8Fronts.{low-bytes}
use Rattle.css_model.specs.Classes.{Text, is_newline, newline}
use Rattle.css_model.specs.Preprocessing.{carriage_return, form_feed, replaced, preprocessed}
use Rattle.css_tokens.specs.inner.Replacing.{is_kept, kept_after, last_after}

preprocessed-one : (c : ℕ) → preprocessed (c ∷ []) ≡ replaced c ∷ []
preprocessed-one c = elim (cases_Bool (c == carriage_return)) [
  | inl t ↦ rw t refl
  | inr f ↦ rw f refl
]

-- a carriage return and the newline behind it become the same
replaced-same : (b c : ℕ) → ((b == carriage_return) && is_newline c) ≡ true → replaced c ≡ replaced b
replaced-same b c h = elim (cases_Bool (b == carriage_return)) [
  | inl t ↦ elim (cases_Bool (is_newline c)) [
    | inl u ↦ rw (eqb-true b carriage_return t, eqb-true c newline u) refl
    | inr f ↦ absurd (false≢true (sym (ap (λ x. (b == carriage_return) && x) f ∙ ap (λ x. x && false) t) ∙ h))
  ]
  | inr f ↦ absurd (false≢true (sym (ap (λ x. x && is_newline c) f) ∙ h))
]

preprocessed-two : (b c : ℕ) → preprocessed (b ∷ c ∷ []) ≡ preprocessed (b ∷ []) ++ kept_after b c
preprocessed-two b c = elim (cases_Bool ((b == carriage_return) && is_newline c)) [
  | inl t ↦ rw (preprocessed-one b, t, preprocessed-one c) (ap (λ x. x ∷ []) (replaced-same b c t))
  | inr f ↦ rw (preprocessed-one b, f, preprocessed-one c) refl
]

preprocessed-more : (b : ℕ) (cs : Text) (c : ℕ) → preprocessed (b ∷ (cs ++ c ∷ [])) ≡ preprocessed (b ∷ cs) ++ kept_after (last_after b cs) c
preprocessed-more b [] c = preprocessed-two b c
preprocessed-more b (d ∷ ds) c = elim (cases_Bool ((b == carriage_return) && is_newline d)) [
  | inl t ↦ rw t (preprocessed-more d ds c)
  | inr f ↦ rw f (ap (λ xs. replaced b ∷ xs) (preprocessed-more d ds c))
]

-- a character more stands behind a text
pub preprocessed-push : (cs : Text) (c : ℕ) → preprocessed (cs ++ c ∷ []) ≡ preprocessed cs ++ kept_after (last_after 0 cs) c
preprocessed-push [] c = preprocessed-one c
preprocessed-push (b ∷ bs) c = preprocessed-more b bs c

pub last-push : (b : ℕ) (cs : Text) (c : ℕ) → last_after b (cs ++ c ∷ []) ≡ c
last-push b [] c = refl
last-push b (d ∷ ds) c = last-push d ds c

-- ---- texts that are preprocessed as they are

all-front : (test : ℕ → Bool) (xs ys : Text) → list_all test (xs ++ ys) ≡ true → list_all test ys ≡ true
all-front test [] ys e = e
all-front test (x ∷ xs) ys e = all-front test xs ys (and-right (test x) (list_all test (xs ++ ys)) e)

high-kept : (c : ℕ) → 128 ≤ c → is_kept c ≡ true
high-kept c h = grind (arith, nat_tests)

kept-first : (c : ℕ) (cs : Text) → list_all is_kept (encodes (c ∷ cs)) ≡ true → is_kept c ≡ true
kept-first c cs e = elim (cases_lt c 128) [
  | inl h ↦ and-left (is_kept c) (list_all is_kept (encodes cs)) (ap (list_all is_kept) (sym (low-bytes c cs h)) ∙ e)
  | inr h ↦ high-kept c h
]

no : (b : Bool) → not b ≡ true → b ≡ false
no true e = absurd (false≢true e)
no false e = refl

kept-more : (c : ℕ) (cs : Text) → is_kept c ≡ true → preprocessed (c ∷ cs) ≡ c ∷ preprocessed cs
kept-more c cs k =
    let a : (c == carriage_return) ≡ false = no (c == carriage_return) (and-left (not (c == carriage_return)) (not (c == form_feed) && not (c == 0)) k) in
    let more : (not (c == form_feed) && not (c == 0)) ≡ true = and-right (not (c == carriage_return)) (not (c == form_feed) && not (c == 0)) k in
    let b : (c == form_feed) ≡ false = no (c == form_feed) (and-left (not (c == form_feed)) (not (c == 0)) more) in
    let d : (c == 0) ≡ false = no (c == 0) (and-right (not (c == form_feed)) (not (c == 0)) more) in
    rw (a, b, d) refl

kept-all : (cs : Text) → list_all is_kept (encodes cs) ≡ true → preprocessed cs ≡ cs
kept-all [] e = refl
kept-all (c ∷ cs) e =
    kept-more c cs (kept-first c cs e) ∙ ap (λ l. c ∷ l) (kept-all cs (all-front is_kept (encode c) (encodes cs) e))

pub kept-text : (bs : List ℕ) → IsUtf8 bs → list_all is_kept bs ≡ true → preprocessed (chars bs) ≡ chars bs
kept-text bs u e = kept-all (chars bs) (ap (list_all is_kept) (encodes-chars bs u) ∙ e)
