-- Numbers in front of a text: what the computation finds is a number of the definition, and no
-- longer one stands there.
use Rattle.std.proofs.Common.{◌≡◌, ◌∙◌, sym, ap, refl, ℕ, ◌==◌, [], ◌∷◌, ◌++◌, length, drop, Bool, true, false, ◌&&◌, not, append_assoc, eqb-true, inl, inr}
use Rattle.std.proofs.lemmas.Bool.{cases_Bool, true≢false, false≢true, cond_both}
use Rattle.std.specs.List.{list_all}
use Rattle.css_model.specs.Classes.{Text, full_stop, is_digit, is_sign, is_e, begins, is_empty, is_at_most_one}
use Rattle.css_model.specs.Numerals.{Numeral, fraction_text, exponent_text, numeral_text, is_exponent, IsNumeral, begins_signed_digit, begins_exponent}
use Rattle.css_model.specs.inner.Fronts.{one_in, run_in, begins_unsigned, would_start_number, fraction_in, with_exponent, numeral_in}
use Rattle.css_model.proofs.Tests.{and-left, and-right, both, or-cases, not-false, pick-true, pick-false}
use Rattle.css_model.proofs.Runs.{Runs, runs}
use Rattle.css_model.proofs.PartLemmas.{one_in-joins}
use Rattle.css_model.proofs.NumeralLemmas.{digit-no_sign, with_mark, without_exponent, numeral-unjoined}

-- ---- the sign

one_in-most : (test : ℕ → Bool) (cs : Text) → is_at_most_one test (one_in test cs) ≡ true
one_in-most test [] = refl
one_in-most test (c ∷ cs) =
    cond_both (test c) (c ∷ []) [] (λ xs. is_at_most_one test xs ≡ true) (λ t. both (test c) true t refl)
    (λ f. refl)

-- after the sign is what begins a number
behind-sign : (cs : Text) → would_start_number cs ≡ true
    → begins_unsigned (drop (length (one_in is_sign cs)) cs) ≡ true
behind-sign [] h = absurd (false≢true h)
behind-sign (c ∷ cs) h = elim (cases_Bool (is_sign c)) [
  | inl t ↦ ap (λ xs. begins_unsigned (drop (length xs) (c ∷ cs))) (pick-true (is_sign c) (c ∷ []) [] t)
      ∙ (ap begins_unsigned (sym (pick-true (is_sign c) cs (c ∷ cs) t)) ∙ h)
  | inr f ↦ ap (λ xs. begins_unsigned (drop (length xs) (c ∷ cs))) (pick-false (is_sign c) (c ∷ []) [] f)
      ∙ (ap begins_unsigned (sym (pick-false (is_sign c) cs (c ∷ cs) f)) ∙ h)
]

-- ---- the exponent

-- after the sign of an exponent is a digit
pub behind-exponent_sign : (cs : Text) → begins_signed_digit cs ≡ true
    → begins is_digit (drop (length (one_in is_sign cs)) cs) ≡ true
behind-exponent_sign [] h = absurd (false≢true h)
behind-exponent_sign (c ∷ cs) h = elim (cases_Bool (is_sign c)) [
  | inl t ↦ ap (λ xs. begins is_digit (drop (length xs) (c ∷ cs))) (pick-true (is_sign c) (c ∷ []) [] t)
      ∙ elim (or-cases (is_digit c) (is_sign c && begins is_digit cs) h) [
        | inl d ↦ absurd (true≢false (sym t ∙ digit-no_sign c d))
        | inr s ↦ and-right (is_sign c) (begins is_digit cs) s
      ]
  | inr f ↦ ap (λ xs. begins is_digit (drop (length xs) (c ∷ cs))) (pick-false (is_sign c) (c ∷ []) [] f)
      ∙ elim (or-cases (is_digit c) (is_sign c && begins is_digit cs) h) [
        | inl d ↦ d
        | inr s ↦ absurd (true≢false (sym (and-left (is_sign c) (begins is_digit cs) s) ∙ f))
      ]
]

pub run-some : (test : ℕ → Bool) (cs : Text) → begins test cs ≡ true → is_empty (run_in test cs) ≡ false
run-some test [] h = absurd (false≢true h)
run-some test (c ∷ cs) h = ap is_empty (pick-true (test c) (c ∷ run_in test cs) [] h)

-- an exponent and what is after it
record Exponent (w : Numeral) (cs : Text) : Type 0 where
  rest : Text
  joins : exponent_text w ++ rest ≡ cs
  is : is_exponent w.mark w.exponent_sign w.exponent ≡ true
  ends : is_empty w.exponent && begins_exponent rest ≡ false

exponent-in : (s w f cs : Text) → Exponent (with_exponent s w f cs) cs
exponent-in s w f [] = record { rest = []; joins = refl; is = refl; ends = refl }
exponent-in s w f (c ∷ cs) =
    let es : Text = one_in is_sign cs in
    let left : Text = drop (length es) cs in
    let digits : Text = run_in is_digit left in
    let r : Runs is_digit left = runs is_digit left in
    let long : Numeral = with_mark s w f c cs in
    let short : Numeral = without_exponent s w f in
    cond_both (begins_exponent (c ∷ cs)) long short (λ n. Exponent n (c ∷ cs))
    (λ t.
    let some : is_empty digits ≡ false =
    run-some is_digit left (behind-exponent_sign cs (and-right (is_e c) (begins_signed_digit cs) t)) in
    record {
      rest = drop (length digits) left;
      joins = ap (λ xs. c ∷ xs)
          (append_assoc es digits (drop (length digits) left)
          ∙ (ap (λ xs. es ++ xs) r.joins ∙ one_in-joins is_sign cs));
      is = both (is_e c) (is_at_most_one is_sign es && (list_all is_digit digits && not (is_empty digits)))
          (and-left (is_e c) (begins_signed_digit cs) t)
          (both (is_at_most_one is_sign es) (list_all is_digit digits && not (is_empty digits))
          (one_in-most is_sign cs)
          (both (list_all is_digit digits) (not (is_empty digits)) r.passes
          (not-false (is_empty digits) some)));
      ends = ap (λ b. b && begins_exponent (drop (length digits) left)) some;
    })
    (λ n. record { rest = c ∷ cs; joins = refl; is = refl; ends = n })

-- the exponent leaves the other parts
pub with_exponent-parts : (s w f cs : Text) → (P : Text → Text → Text → Type 0) → P s w f
    → P (with_exponent s w f cs).sign (with_exponent s w f cs).integer (with_exponent s w f cs).fraction
with_exponent-parts s w f [] P h = h
with_exponent-parts s w f (c ∷ cs) P h =
    cond_both (begins_exponent (c ∷ cs)) (with_mark s w f c cs) (without_exponent s w f)
    (λ n. P n.sign n.integer n.fraction) (λ t. h) (λ n. h)

-- ---- the fraction

point-joins : (c : ℕ) (xs cs : Text) → full_stop ≡ c → xs ++ drop (length xs) cs ≡ cs
    → fraction_text xs ++ drop (length (fraction_text xs)) (c ∷ cs) ≡ c ∷ cs
point-joins c [] cs e h = refl
point-joins c (x ∷ xs) cs e h = ap (λ d. d ∷ ((x ∷ xs) ++ drop (length (x ∷ xs)) cs)) e
    ∙ ap (λ ys. c ∷ ys) h

fraction-joins : (cs : Text)
    → fraction_text (fraction_in cs) ++ drop (length (fraction_text (fraction_in cs))) cs ≡ cs
fraction-joins [] = refl
fraction-joins (c ∷ cs) =
    let r : Runs is_digit cs = runs is_digit cs in
    cond_both (c == full_stop) (run_in is_digit cs) []
    (λ xs. fraction_text xs ++ drop (length (fraction_text xs)) (c ∷ cs) ≡ c ∷ cs)
    (λ t. point-joins c (run_in is_digit cs) cs (sym (eqb-true c full_stop t)) r.joins) (λ f. refl)

fraction-pass : (cs : Text) → list_all is_digit (fraction_in cs) ≡ true
fraction-pass [] = refl
fraction-pass (c ∷ cs) = let r : Runs is_digit cs = runs is_digit cs in
    cond_both (c == full_stop) (run_in is_digit cs) [] (λ xs. list_all is_digit xs ≡ true) (λ t. r.passes)
    (λ f. refl)

-- ---- the number that the computation finds

some-digit : (cs : Text) → begins_unsigned cs ≡ true
    → is_empty (run_in is_digit cs) && is_empty (fraction_in (drop (length (run_in is_digit cs)) cs))
    ≡ false
some-digit [] h = absurd (false≢true h)
some-digit (c ∷ cs) h =
    cond_both (is_digit c) (c ∷ run_in is_digit cs) []
    (λ xs. is_empty xs && is_empty (fraction_in (drop (length xs) (c ∷ cs))) ≡ false)
    (λ t. refl)
    (λ f. elim (or-cases (is_digit c) ((c == full_stop) && begins is_digit cs) h) [
      | inl d ↦ absurd (true≢false (sym d ∙ f))
      | inr p ↦ ap is_empty
          (pick-true (c == full_stop) (run_in is_digit cs) []
          (and-left (c == full_stop) (begins is_digit cs) p))
          ∙ run-some is_digit cs (and-right (c == full_stop) (begins is_digit cs) p)
    ])

-- the number in front of a text, and what is after it
pub record Numbers (w : Numeral) (cs : Text) : Type 0 where
  pub rest : Text
  pub joins : numeral_text w ++ rest ≡ cs
  pub is : IsNumeral w
  pub ends : is_empty w.exponent && begins_exponent rest ≡ false

-- what the parts before the exponent are
record Before (cs behind s w f : Text) : Type 0 where
  joins : s ++ (w ++ (fraction_text f ++ behind)) ≡ cs
  sign : is_at_most_one is_sign s ≡ true
  integer : list_all is_digit w ≡ true
  fraction : list_all is_digit f ≡ true
  some : is_empty w && is_empty f ≡ false

-- a text that begins as numbers do begins with the number that is computed
pub numbers-in : (cs : Text) → would_start_number cs ≡ true → Numbers (numeral_in cs) cs
numbers-in cs h =
    let s : Text = one_in is_sign cs in
    let u : Text = drop (length s) cs in
    let w : Text = run_in is_digit u in
    let v : Text = drop (length w) u in
    let f : Text = fraction_in v in
    let z : Text = drop (length (fraction_text f)) v in
    let r : Runs is_digit u = runs is_digit u in
    let e : Exponent (with_exponent s w f z) z = exponent-in s w f z in
    let integer : s ++ (w ++ (fraction_text f ++ z)) ≡ cs = ap (λ xs. s ++ (w ++ xs)) (fraction-joins v)
    ∙ (ap (λ xs. s ++ xs) r.joins ∙ one_in-joins is_sign cs) in
    let b : Before cs z (with_exponent s w f z).sign (with_exponent s w f z).integer
    (with_exponent s w f z).fraction =
    with_exponent-parts s w f z (λ s' w' f'. Before cs z s' w' f')
    (record {
      joins = integer;
      sign = one_in-most is_sign cs;
      integer = r.passes;
      fraction = fraction-pass v;
      some = some-digit u (behind-sign cs h);
    }) in
    record {
      rest = e.rest;
      joins = numeral-unjoined (with_exponent s w f z) e.rest
          ∙ (ap (λ xs. (with_exponent s w f
          z).sign ++ ((with_exponent s w f z).integer ++ (fraction_text
          (with_exponent s w f z).fraction ++ xs))) e.joins ∙ b.joins);
      is = record {
        sign = b.sign;
        integer = b.integer;
        fraction = b.fraction;
        some_digit = b.some;
        exponent = e.is;
      };
      ends = e.ends;
    }
