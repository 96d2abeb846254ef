-- No number of the definition is longer than the one that is computed.
use Rattle.std.proofs.Common.{◌≡◌, ◌∙◌, sym, ap, refl, subst, ℕ, suc, ◌+◌, ◌≤◌, [], ◌∷◌, ◌++◌, length, drop, true, false, ◌&&◌, not, arith, length-append}
use Rattle.std.proofs.lemmas.Bool.{true≢false, false≢true}
use Rattle.std.proofs.Math.Seq.{drop-append_seam}
use Rattle.std.specs.List.{list_all}
use Rattle.css_model.specs.Classes.{Text, full_stop, is_digit, is_sign, is_e, begins, is_empty, is_at_most_one}
use Rattle.css_model.specs.Numerals.{Numeral, fraction_text, exponent_text, numeral_text, is_exponent, IsNumeral}
use Rattle.css_model.specs.inner.Fronts.{run_in, fraction_in, with_exponent, with_fraction, with_integer, numeral_in}
use Rattle.css_model.proofs.Tests.{and-left, and-right, not-true}
use Rattle.css_model.proofs.Runs.{run_in-is, run_in-longest}
use Rattle.css_model.proofs.FirstNumbers.{with_exponent-parts}
use Rattle.css_model.proofs.NumeralLemmas.{with_digits}
use Rattle.css_model.proofs.NumberBounds.{behind-sign-is, exponent-long, fraction-is, fraction-no_digit, e-no_digit, IsOther}

pub numeral-length : (n : Numeral)
    → length (numeral_text n)
    ≡ length n.sign + (length n.integer + (length (fraction_text n.fraction) + length (exponent_text n)))
numeral-length n =
    length-append n.sign (n.integer ++ (fraction_text n.fraction ++ exponent_text n))
    ∙ ap (λ k. length n.sign + k) (length-append n.integer (fraction_text n.fraction ++ exponent_text n)
    ∙ ap (λ k. length n.integer + k) (length-append (fraction_text n.fraction) (exponent_text n)))

pub with_exponent-length : (s w f z : Text)
    → length (numeral_text (with_exponent s w f z))
    ≡ length s + (length w + (length (fraction_text f) + length (exponent_text (with_exponent s w f z))))
with_exponent-length s w f z =
    let k : ℕ = length (exponent_text (with_exponent s w f z)) in
    numeral-length (with_exponent s w f z)
    ∙ with_exponent-parts s w f z
    (λ s' w' f'. length s' + (length w' + (length (fraction_text f') + k))
    ≡ length s + (length w + (length (fraction_text f) + k))) refl

pub some-length : (xs : Text) → is_empty xs ≡ false → 1 ≤ length xs
some-length [] h = absurd (true≢false h)
some-length (x ∷ xs) h = omega arith

pub fraction-length : (f : Text) → length f ≤ length (fraction_text f)
fraction-length [] = omega arith
fraction-length (x ∷ xs) = omega arith

fraction-size : (f : Text) → 1 ≤ length f → length (fraction_text f) ≡ suc (length f)
fraction-size [] h = absurd (omega (arith, h))
fraction-size (x ∷ xs) h = refl

exponent-none : (mark es digits : Text) → is_exponent mark es digits ≡ true → mark ≡ []
    → length (mark ++ (es ++ digits)) ≡ 0
exponent-none [] [] [] h e = refl
exponent-none [] [] (x ∷ xs) h e = absurd (false≢true h)
exponent-none [] (g ∷ gs) digits h e = absurd (false≢true h)
exponent-none (m ∷ ms) es digits h e = let z : length (m ∷ ms) ≡ 0 = ap length e in
    absurd (omega (arith, z))

-- with only digits of the integer part in front
whole-size : (s w rest : Text) → list_all is_digit w ≡ true
    → length s + length w ≤ length (numeral_text (with_integer s (w ++ rest)))
whole-size s w rest a =
    let cs : Text = w ++ rest in
    let run : Text = run_in is_digit cs in
    let v : Text = drop (length run) cs in
    let l : length w ≤ length (run_in is_digit (w ++ rest)) = run_in-longest is_digit w rest a in
    let all : length
    (numeral_text (with_exponent s run (fraction_in v)
    (drop (length (fraction_text (fraction_in v))) v)))
    ≡ length s + (length
    run + (length (fraction_text (fraction_in v)) + length
    (exponent_text (with_exponent s run (fraction_in v)
    (drop (length (fraction_text (fraction_in v))) v))))) =
    with_exponent-length s run (fraction_in v) (drop (length (fraction_text (fraction_in v))) v) in
    rw all (omega (arith, l))

-- the integer part is known
whole-known : (s w v : Text) → list_all is_digit w ≡ true → begins is_digit v ≡ false
    → with_integer s (w ++ v) ≡ with_fraction s w v
whole-known s w v a d =
    ap (λ xs. with_fraction s xs (drop (length xs) (w ++ v))) (run_in-is is_digit w v a d)
    ∙ ap (with_fraction s w) (drop-append_seam w v)

-- with digits after the point in front
fraction-front : (s w x : Text) (y : ℕ) (rest : Text) → list_all is_digit (y ∷ x) ≡ true
    → length s + (length w + suc (length (y ∷ x))) ≤ length
    (numeral_text (with_fraction s w (fraction_text (y ∷ x) ++ rest)))
fraction-front s w x y rest a =
    let f : Text = run_in is_digit ((y ∷ x) ++ rest) in
    let z : Text = drop (length (fraction_text f)) (full_stop ∷ ((y ∷ x) ++ rest)) in
    let l : length (y ∷ x) ≤ length (run_in is_digit ((y ∷ x) ++ rest)) =
    run_in-longest is_digit (y ∷ x) rest a in
    let l1 : suc (length x) ≤ length f = l in
    let size : length (fraction_text f) ≡ suc (length f) = fraction-size f (omega (arith, l1)) in
    let all : length (numeral_text (with_exponent s w f z))
    ≡ length s + (length w + (length (fraction_text f) + length (exponent_text (with_exponent s w f z)))) =
    with_exponent-length s w f z in
    rw all (rw size (omega (arith, l1)))

-- the parts before the exponent are known
pub parts-known : (s w f z : Text) → list_all is_digit w ≡ true → list_all is_digit f ≡ true → IsOther z
    → with_integer s (w ++ (fraction_text f ++ z)) ≡ with_exponent s w f z
parts-known s w f z a b o =
    whole-known s w (fraction_text f ++ z) a (fraction-no_digit f z o.0)
    ∙ (ap (λ xs. with_exponent s w xs (drop (length (fraction_text xs)) (fraction_text f ++ z)))
    (fraction-is f z b o.0 o.1) ∙ ap (with_exponent s w f) (drop-append_seam (fraction_text f) z))

-- with an exponent in front
exponent-front : (s w f : Text) (m : ℕ) (es digits rest : Text) → is_exponent (m ∷ []) es digits ≡ true
    → length s + (length w + (length (fraction_text f) + suc (length es + length digits))) ≤ length
    (numeral_text (with_exponent s w f (m ∷ ((es ++ digits) ++ rest))))
exponent-front s w f m es digits rest h =
    let k : is_at_most_one is_sign es && (list_all is_digit digits && not (is_empty digits)) ≡ true =
    and-right (is_e m)
    (is_at_most_one is_sign es && (list_all is_digit digits && not (is_empty digits))) h in
    let l : list_all is_digit digits && not (is_empty digits) ≡ true =
    and-right (is_at_most_one is_sign es) (list_all is_digit digits && not (is_empty digits)) k in
    let a : list_all is_digit digits ≡ true =
    and-left (list_all is_digit digits) (not (is_empty digits)) l in
    let run : Text = run_in is_digit (digits ++ rest) in
    let long : Numeral = with_digits s w f m es (digits ++ rest) in
    let is : with_exponent s w f (m ∷ ((es ++ digits) ++ rest)) ≡ long =
    exponent-long s w f m es digits rest
    (and-left (is_e m)
    (is_at_most_one is_sign es && (list_all is_digit digits && not (is_empty digits))) h)
    (and-left (is_at_most_one is_sign es) (list_all is_digit digits && not (is_empty digits)) k) a
    (not-true (is_empty digits) (and-right (list_all is_digit digits) (not (is_empty digits)) l)) in
    let longer : length digits ≤ length (run_in is_digit (digits ++ rest)) =
    run_in-longest is_digit digits rest a in
    let size : length (numeral_text long)
    ≡ length s + (length w + (length (fraction_text f) + suc (length (es ++ run)))) =
    numeral-length long in
    let both' : length (es ++ run) ≡ length es + length run = length-append es run in
    subst (λ n. length
    s + (length w + (length (fraction_text f) + suc (length es + length digits))) ≤ length
    (numeral_text n)) (sym is) (rw size (rw both' (omega (arith, longer))))

-- a number of the definition is no longer than the one that is computed
size-at : (s w f mark es digits rest : Text) → list_all is_digit w ≡ true → list_all is_digit f ≡ true
    → is_exponent mark es digits ≡ true
    → length s + (length w + (length (fraction_text f) + length (mark ++ (es ++ digits)))) ≤ length
    (numeral_text (with_integer s (w ++ (fraction_text f ++ ((mark ++ (es ++ digits)) ++ rest)))))
size-at s w [] [] es digits rest a b h =
    let l : length s + length w ≤ length (numeral_text (with_integer s (w ++ ((es ++ digits) ++ rest)))) =
    whole-size s w ((es ++ digits) ++ rest) a in
    let z : length (es ++ digits) ≡ 0 = exponent-none [] es digits h refl in
    omega (arith, l, z)
size-at s w (x ∷ xs) [] es digits rest a b h =
    let tail : Text = (es ++ digits) ++ rest in
    let z : length (es ++ digits) ≡ 0 = exponent-none [] es digits h refl in
    let l : length s + (length w + suc (length (x ∷ xs)))
    ≤ length (numeral_text (with_fraction s w (fraction_text (x ∷ xs) ++ ((es ++ digits) ++ rest)))) =
    fraction-front s w xs x tail b in
    subst (λ n. length s + (length w + (length (fraction_text (x ∷ xs)) + length (es ++ digits))) ≤ length
    (numeral_text n)) (sym (whole-known s w (fraction_text (x ∷ xs) ++ tail) a refl))
    (rw z (omega (arith, l)))
size-at s w f (m ∷ []) es digits rest a b h =
    let z : Text = m ∷ ((es ++ digits) ++ rest) in
    let o : IsOther (m ∷ ((es ++ digits) ++ rest)) =
    e-no_digit m (and-left (is_e m)
    (is_at_most_one is_sign es && (list_all is_digit digits && not (is_empty digits))) h) in
    let l : length s + (length w + (length (fraction_text f) + suc (length es + length digits)))
    ≤ length (numeral_text (with_exponent s w f (m ∷ ((es ++ digits) ++ rest)))) =
    exponent-front s w f m es digits rest h in
    subst (λ n. length s + (length w + (length (fraction_text f) + suc (length (es ++ digits)))) ≤ length
    (numeral_text n)) (sym (parts-known s w f z a b o)) (rw (length-append es digits) l)
size-at s w f (m ∷ m2 ∷ ms) es digits rest a b h = absurd (false≢true (and-right (is_e m) false h))

pub numeral-within : (w : Numeral) (rest : Text) → IsNumeral w
    → length (numeral_text w) ≤ length (numeral_text (numeral_in (numeral_text w ++ rest)))
numeral-within w rest h =
    subst (λ n. length (numeral_text w) ≤ length (numeral_text n)) (sym (behind-sign-is w rest h))
    (rw (numeral-length w)
    (size-at w.sign w.integer w.fraction w.mark w.exponent_sign w.exponent rest h.integer h.fraction
    h.exponent))
