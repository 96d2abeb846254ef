-- A number of the definition is the one that is computed where nothing after it goes on with it,
-- and is no longer in any case.
use Rattle.std.proofs.Common.{◌≡◌, ◌∙◌, sym, ap, refl, subst, ℕ, ◌==◌, [], ◌∷◌, ◌++◌, length, drop, true, false, ◌&&◌, ◌||◌, not, append_assoc, eqb-true, inl, inr}
use Rattle.std.proofs.lemmas.Bool.{true≢false, false≢true}
use Rattle.std.proofs.Math.Seq.{drop-append_seam}
use Rattle.std.specs.List.{list_all}
use Rattle.css_model.specs.Classes.{Text, full_stop, is_digit, is_sign, is_e, begins, is_empty, is_at_most_one}
use Rattle.css_model.specs.Numerals.{Numeral, fraction_text, exponent_text, numeral_text, is_exponent, IsNumeral, begins_exponent}
use Rattle.css_model.specs.inner.Fronts.{one_in, run_in, fraction_in, with_exponent, with_fraction, with_integer, numeral_in}
use Rattle.css_model.proofs.Tests.{and-left, and-right, both, or-left, or-right, or-cases, not-true, pick-true, pick-false}
use Rattle.css_model.proofs.Runs.{run_in-is}
use Rattle.css_model.proofs.PartLemmas.{one_in-none}
use Rattle.css_model.proofs.NumeralLemmas.{digit-no_sign, Unsigned, unsigned, without_exponent, with_digits, with_mark, numeral-unjoined}

-- ---- the sign

sign-is : (sign cs : Text) → is_at_most_one is_sign sign ≡ true → begins is_sign cs ≡ false
    → one_in is_sign (sign ++ cs) ≡ sign
sign-is [] cs s f = one_in-none is_sign cs f
sign-is (c ∷ []) cs s f = pick-true (is_sign c) (c ∷ []) [] (and-left (is_sign c) true s)
sign-is (c ∷ d ∷ ds) cs s f = absurd (false≢true (and-right (is_sign c) false s))

-- after the sign of a number of the definition
pub behind-sign-is : (w : Numeral) (rest : Text) → IsNumeral w
    → numeral_in (numeral_text w ++ rest)
    ≡ with_integer w.sign (w.integer ++ (fraction_text w.fraction ++ (exponent_text w ++ rest)))
behind-sign-is w rest h =
    let left : Text = w.integer ++ (fraction_text w.fraction ++ (exponent_text w ++ rest)) in
    let u : Unsigned (w.integer ++ (fraction_text w.fraction ++ (exponent_text w ++ rest))) =
    unsigned w.integer w.fraction (exponent_text w ++ rest) h.integer h.fraction h.some_digit in
    let s : one_in is_sign (w.sign ++ left) ≡ w.sign = sign-is w.sign left h.sign u.no_sign in
    ap numeral_in (numeral-unjoined w rest)
    ∙ (ap (λ xs. with_integer xs (drop (length xs) (w.sign ++ left))) s
    ∙ ap (with_integer w.sign) (drop-append_seam w.sign left))

-- ---- the exponent

exponent-begins : (m : ℕ) (es digits rest : Text) → is_e m ≡ true → is_at_most_one is_sign es ≡ true
    → list_all is_digit digits ≡ true → is_empty digits ≡ false
    → begins_exponent (m ∷ ((es ++ digits) ++ rest)) ≡ true
exponent-begins m es [] rest e s a n = absurd (true≢false n)
exponent-begins m [] (d ∷ ds) rest e s a n =
    both (is_e m) (is_digit d || (is_sign d && begins is_digit (ds ++ rest))) e
    (or-left (is_digit d) (is_sign d && begins is_digit (ds ++ rest))
    (and-left (is_digit d) (list_all is_digit ds) a))
exponent-begins m (g ∷ []) (d ∷ ds) rest e s a n =
    both (is_e m) (is_digit g || (is_sign g && is_digit d)) e
    (or-right (is_digit g) (is_sign g && is_digit d)
    (both (is_sign g) (is_digit d) (and-left (is_sign g) true s)
    (and-left (is_digit d) (list_all is_digit ds) a)))
exponent-begins m (g ∷ g2 ∷ gs) (d ∷ ds) rest e s a n = absurd (false≢true (and-right (is_sign g) false s))

exponent-sign : (es digits rest : Text) → is_at_most_one is_sign es ≡ true → list_all is_digit digits ≡ true
    → is_empty digits ≡ false → one_in is_sign ((es ++ digits) ++ rest) ≡ es
exponent-sign es [] rest s a n = absurd (true≢false n)
exponent-sign es (d ∷ ds) rest s a n = ap (one_in is_sign) (append_assoc es (d ∷ ds) rest)
    ∙ sign-is es (d ∷ (ds ++ rest)) s (digit-no_sign d (and-left (is_digit d) (list_all is_digit ds) a))

-- an exponent that is there
pub exponent-long : (s w f : Text) (m : ℕ) (es digits rest : Text) → is_e m ≡ true
    → is_at_most_one is_sign es ≡ true → list_all is_digit digits ≡ true → is_empty digits ≡ false
    → with_exponent s w f (m ∷ ((es ++ digits) ++ rest))
    ≡ with_digits s w f m es (digits ++ rest)
exponent-long s w f m es digits rest e g a n =
    let cs : Text = (es ++ digits) ++ rest in
    let sign : one_in is_sign cs ≡ es = exponent-sign es digits rest g a n in
    let left : drop (length (one_in is_sign cs)) cs ≡ digits ++ rest = ap (λ xs. drop (length xs) cs) sign
    ∙ (ap (drop (length es)) (append_assoc es digits rest) ∙ drop-append_seam es (digits ++ rest)) in
    pick-true (begins_exponent (m ∷ cs)) (with_mark s w f m cs) (without_exponent s w f)
    (exponent-begins m es digits rest e g a n)
    ∙ (ap (λ xs. with_digits s w f m xs (drop (length (one_in is_sign cs)) cs)) sign
    ∙ ap (with_digits s w f m es) left)

no-exponent : (s w f rest : Text) → begins_exponent rest ≡ false
    → with_exponent s w f rest ≡ without_exponent s w f
no-exponent s w f [] h = refl
no-exponent s w f (c ∷ cs) h =
    pick-false (begins_exponent (c ∷ cs)) (with_mark s w f c cs) (without_exponent s w f) h

-- an exponent of the definition is the one that is computed, where no digit follows
exponent-is : (s w f mark es digits rest : Text) → is_exponent mark es digits ≡ true
    → begins is_digit rest ≡ false → is_empty digits && begins_exponent rest ≡ false
    → with_exponent s w f ((mark ++ (es ++ digits)) ++ rest)
    ≡ record { sign = s; integer = w; fraction = f; mark = mark; exponent_sign = es; exponent = digits }
exponent-is s w f [] [] [] rest h d e = no-exponent s w f rest e
exponent-is s w f [] [] (x ∷ xs) rest h d e = absurd (false≢true h)
exponent-is s w f [] (g ∷ gs) digits rest h d e = absurd (false≢true h)
exponent-is s w f (m ∷ []) es digits rest h d e =
    let k : is_at_most_one is_sign es && (list_all is_digit digits && not (is_empty digits)) ≡ true =
    and-right (is_e m)
    (is_at_most_one is_sign es && (list_all is_digit digits && not (is_empty digits))) h in
    let l : list_all is_digit digits && not (is_empty digits) ≡ true =
    and-right (is_at_most_one is_sign es) (list_all is_digit digits && not (is_empty digits)) k in
    let a : list_all is_digit digits ≡ true =
    and-left (list_all is_digit digits) (not (is_empty digits)) l in
    let made : Text → Numeral =
    λ xs. record {
      sign = s;
      integer = w;
      fraction = f;
      mark = m ∷ [];
      exponent_sign = es;
      exponent = xs;
    } in
    exponent-long s w f m es digits rest
    (and-left (is_e m)
    (is_at_most_one is_sign es && (list_all is_digit digits && not (is_empty digits))) h)
    (and-left (is_at_most_one is_sign es) (list_all is_digit digits && not (is_empty digits)) k) a
    (not-true (is_empty digits) (and-right (list_all is_digit digits) (not (is_empty digits)) l))
    ∙ ap made (run_in-is is_digit digits rest a d)
exponent-is s w f (m ∷ m2 ∷ ms) es digits rest h d e = absurd (false≢true (and-right (is_e m) false h))

-- ---- all of the number

pub fraction-is : (f rest : Text) → list_all is_digit f ≡ true → begins is_digit rest ≡ false
    → begins (λ c. c == full_stop) rest ≡ false → fraction_in (fraction_text f ++ rest) ≡ f
fraction-is [] [] a d p = refl
fraction-is [] (c ∷ cs) a d p = pick-false (c == full_stop) (run_in is_digit cs) [] p
fraction-is (x ∷ xs) rest a d p = run_in-is is_digit (x ∷ xs) rest a d

pub fraction-no_digit : (f rest : Text) → begins is_digit rest ≡ false
    → begins is_digit (fraction_text f ++ rest) ≡ false
fraction-no_digit [] rest d = d
fraction-no_digit (x ∷ xs) rest d = refl

pub e-no_digit : (m : ℕ) → is_e m ≡ true → (is_digit m ≡ false) × (m == full_stop ≡ false)
e-no_digit m h = elim (or-cases (m == 69) (m == 101) h) [
  | inl t ↦ subst (λ x. (is_digit x ≡ false) × (x == full_stop ≡ false)) (sym (eqb-true m 69 t))
      (refl, refl)
  | inr t ↦ subst (λ x. (is_digit x ≡ false) × (x == full_stop ≡ false)) (sym (eqb-true m 101 t))
      (refl, refl)
]

-- neither a digit nor a point
abbrev pub IsOther : Text → Type 0
IsOther cs = (begins is_digit cs ≡ false) × (begins (λ c. c == full_stop) cs ≡ false)

pub exponent-other : (mark es digits rest : Text) → is_exponent mark es digits ≡ true → IsOther rest
    → IsOther ((mark ++ (es ++ digits)) ++ rest)
exponent-other [] [] [] rest h o = o
exponent-other [] [] (x ∷ xs) rest h o = absurd (false≢true h)
exponent-other [] (g ∷ gs) digits rest h o = absurd (false≢true h)
exponent-other (m ∷ ms) es digits rest h o =
    e-no_digit m (and-left (is_e m)
    (is_empty ms && (is_at_most_one is_sign es && (list_all is_digit digits && not (is_empty digits)))) h)

-- a number of the definition is the one that is computed, where neither a digit nor a point nor its
-- exponent follows
pub numeral-is : (w : Numeral) (rest : Text) → IsNumeral w → IsOther rest
    → is_empty w.exponent && begins_exponent rest ≡ false → numeral_in (numeral_text w ++ rest) ≡ w
numeral-is w rest h o e =
    let z : Text = exponent_text w ++ rest in
    let oz : IsOther (exponent_text w ++ rest) =
    exponent-other w.mark w.exponent_sign w.exponent rest h.exponent o in
    let v : Text = fraction_text w.fraction ++ z in
    let integer : run_in is_digit (w.integer ++ v) ≡ w.integer =
    run_in-is is_digit w.integer v h.integer (fraction-no_digit w.fraction z oz.0) in
    let fraction : fraction_in v ≡ w.fraction = fraction-is w.fraction z h.fraction oz.0 oz.1 in
    behind-sign-is w rest h
    ∙ (ap (λ xs. with_fraction w.sign xs (drop (length xs) (w.integer ++ v))) integer
    ∙ (ap (with_fraction w.sign w.integer) (drop-append_seam w.integer v)
    ∙ (ap (λ xs. with_exponent w.sign w.integer xs (drop (length (fraction_text xs)) v)) fraction
    ∙ (ap (with_exponent w.sign w.integer w.fraction) (drop-append_seam (fraction_text w.fraction) z)
    ∙ exponent-is w.sign w.integer w.fraction w.mark w.exponent_sign w.exponent rest h.exponent o.0 e))))
