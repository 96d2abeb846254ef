-- A number and the name after it.
use Rattle.std.proofs.Common.{◌≡◌, ◌⊎◌, ◌∙◌, sym, ap, refl, subst, ℕ, suc, ◌+◌, ◌≤◌, ◌==◌, List, [], ◌∷◌, ◌++◌, length, drop, true, false, ◌&&◌, ◌||◌, arith, length-append, eqb-true, inl, inr}
use Rattle.std.proofs.lemmas.Bool.{cases_Bool, true≢false, false≢true, leb-true}
use Rattle.std.specs.Prelude.{nat_le}
use Rattle.std.specs.List.{list_all}
use Rattle.css_model.specs.Classes.{Text, full_stop, hyphen, underscore, is_between, is_letter, is_digit, is_ident_start, is_sign, is_e, begins, is_empty, is_at_most_one}
use Rattle.css_model.specs.declared.place.Place.TheVariants.{InName}
use Rattle.css_model.specs.Parts.{Part, itself, escaped, hex_escape, escaped_newline, escape_at_end, parts_text, would_start_ident, follows_hyphen}
use Rattle.css_model.specs.Spellings.{IsName}
use Rattle.css_model.specs.Numerals.{Numeral, fraction_text, exponent_text, numeral_text, is_exponent, IsNumeral, begins_signed_digit, begins_exponent}
use Rattle.css_model.specs.inner.Fronts.{one_in, run_in, parts_in, after_parts, begins_unsigned, would_start_number, with_exponent, with_integer, numeral_in}
use Rattle.css_model.proofs.Tests.{and-left, and-right, or-left, or-cases, pick-true, pick-false}
use Rattle.css_model.proofs.PartLemmas.{Fronts, fronts}
use Rattle.css_model.proofs.Demands.{begins_name}
use Rattle.css_model.proofs.NumeralLemmas.{with_mark, without_exponent}
use Rattle.css_model.proofs.FirstNumbers.{behind-exponent_sign, run-some}
use Rattle.css_model.proofs.NumberBounds.{behind-sign-is, numeral-is, IsOther}
use Rattle.css_model.proofs.NumberSizes.{numeral-length, with_exponent-length, some-length, parts-known}

-- ---- what begins a name begins no number

digit-below : (c : ℕ) → is_digit c ≡ true → c ≤ 57
digit-below c h = leb-true c 57 (and-right (nat_le 48 c) (nat_le c 57) h)

start-no_digit : (c : ℕ) → is_ident_start c ≡ true → is_digit c ≡ false
start-no_digit c h = elim (cases_Bool (is_digit c)) [
  | inr f ↦ f
  | inl d ↦
      let low : c ≤ 57 = digit-below c d in
      elim (or-cases (is_letter c) (nat_le 128 c || (c == underscore)) h) [
        | inl t ↦ elim (or-cases (is_between 65 90 c) (is_between 97 122 c) t) [
          | inl u ↦ let l : 65 ≤ c = leb-true 65 c (and-left (nat_le 65 c) (nat_le c 90) u) in
              absurd (omega (arith, low, l))
          | inr u ↦ let l : 97 ≤ c = leb-true 97 c (and-left (nat_le 97 c) (nat_le c 122) u) in
              absurd (omega (arith, low, l))
        ]
        | inr t ↦ elim (or-cases (nat_le 128 c) (c == underscore) t) [
          | inl u ↦ let l : 128 ≤ c = leb-true 128 c u in absurd (omega (arith, low, l))
          | inr u ↦ let l : c ≡ 95 = eqb-true c underscore u in absurd (omega (arith, low, l))
        ]
      ]
]

start-no_char : (c d : ℕ) → is_ident_start d ≡ false → is_ident_start c ≡ true → c == d ≡ false
start-no_char c d f h =
    elim (cases_Bool (c == d)) [
      | inr n ↦ n
      | inl t ↦
          absurd (true≢false (sym (ap is_ident_start (sym (eqb-true c d t)) ∙ h) ∙ f))
    ]

-- an identifier begins with neither a digit nor a point
pub ident-other : (parts : List Part) (rest : Text) → would_start_ident parts ≡ true
    → IsOther (parts_text parts ++ rest)
ident-other [] rest h = absurd (false≢true h)
ident-other (itself c ∷ parts) rest h =
    elim (or-cases (is_ident_start c) ((c == hyphen) && follows_hyphen parts) h) [
      | inl t ↦ (start-no_digit c t, start-no_char c full_stop refl t)
      | inr t ↦ subst (λ x. IsOther (x ∷ (parts_text parts ++ rest)))
          (sym (eqb-true c hyphen (and-left (c == hyphen) (follows_hyphen parts) t))) (refl, refl)
    ]
ident-other (escaped c ∷ parts) rest h = (refl, refl)
ident-other (hex_escape digits blank ∷ parts) rest h = (refl, refl)
ident-other (escaped_newline ∷ parts) rest h = (refl, refl)
ident-other (escape_at_end ∷ parts) rest h = (refl, refl)

other-unsigned : (cs : Text) → IsOther cs → begins_unsigned cs ≡ false
other-unsigned [] o = refl
other-unsigned (c ∷ cs) o = rw o.0 (rw o.1 refl)

hyphen-other : (parts : List Part) (rest : Text) → follows_hyphen parts ≡ true
    → IsOther (parts_text parts ++ rest)
hyphen-other [] rest h = absurd (false≢true h)
hyphen-other (itself c ∷ parts) rest h = elim (or-cases (is_ident_start c) (c == hyphen) h) [
  | inl t ↦ (start-no_digit c t, start-no_char c full_stop refl t)
  | inr t ↦ subst (λ x. IsOther (x ∷ (parts_text parts ++ rest))) (sym (eqb-true c hyphen t)) (refl, refl)
]
hyphen-other (escaped c ∷ parts) rest h = (refl, refl)
hyphen-other (hex_escape digits blank ∷ parts) rest h = (refl, refl)
hyphen-other (escaped_newline ∷ parts) rest h = (refl, refl)
hyphen-other (escape_at_end ∷ parts) rest h = (refl, refl)

ident-no_number : (parts : List Part) (rest : Text) → would_start_ident parts ≡ true
    → would_start_number (parts_text parts ++ rest) ≡ false
ident-no_number [] rest h = absurd (false≢true h)
ident-no_number (itself c ∷ parts) rest h =
    elim (or-cases (is_ident_start c) ((c == hyphen) && follows_hyphen parts) h) [
      | inl t ↦
          let no_sign : is_sign c ≡ false = rw (start-no_char c 43 refl t) (start-no_char c 45 refl t) in
          ap begins_unsigned
          (pick-false (is_sign c) (parts_text parts ++ rest) (c ∷ (parts_text parts ++ rest)) no_sign)
          ∙ other-unsigned (c ∷ (parts_text parts ++ rest))
          (start-no_digit c t, start-no_char c full_stop refl t)
      | inr t ↦ subst (λ x. would_start_number (x ∷ (parts_text parts ++ rest)) ≡ false)
          (sym (eqb-true c hyphen (and-left (c == hyphen) (follows_hyphen parts) t)))
          (other-unsigned (parts_text parts ++ rest)
          (hyphen-other parts rest (and-right (c == hyphen) (follows_hyphen parts) t)))
    ]
ident-no_number (escaped c ∷ parts) rest h = refl
ident-no_number (hex_escape digits blank ∷ parts) rest h = refl
ident-no_number (escaped_newline ∷ parts) rest h = refl
ident-no_number (escape_at_end ∷ parts) rest h = refl

-- where a number begins, no name does
pub number-no_name : (cs : Text) → would_start_number cs ≡ true → begins_name cs ≡ false
number-no_name cs h = elim (cases_Bool (begins_name cs)) [
  | inr f ↦ f
  | inl t ↦
      let f : Fronts InName cs = fronts InName cs in
      absurd (true≢false
      (sym (ap would_start_number f.joins ∙ h)
      ∙ ident-no_number (parts_in InName cs) (after_parts (parts_in InName cs) cs) t))
]

-- ---- a unit that would begin an exponent

short-tail : (tl rest : Text) → begins_signed_digit (tl ++ rest) ≡ true → begins_signed_digit tl ≡ false
    → length tl ≤ length (one_in is_sign (tl ++ rest))
short-tail [] rest t f = omega arith
short-tail (g ∷ []) rest t f = elim (or-cases (is_digit g) (is_sign g && begins is_digit rest) t) [
  | inl d ↦ absurd (true≢false (sym (or-left (is_digit g) (is_sign g && false) d) ∙ f))
  | inr s ↦ subst (λ xs. 1 ≤ length xs)
      (sym (pick-true (is_sign g) (g ∷ []) [] (and-left (is_sign g) (begins is_digit rest) s)))
      (omega arith)
]
short-tail (g ∷ y ∷ ys) rest t f = absurd (true≢false (sym t ∙ f))

-- where a name and what follows begin an exponent, the number that takes it is no shorter than the two
exponent-grows : (s w f tail rest : Text) → begins_exponent (tail ++ rest) ≡ true
    → begins_exponent tail ≡ false
    → length s + (length w + (length (fraction_text f) + length tail)) ≤ length
    (numeral_text (with_exponent s w f (tail ++ rest)))
exponent-grows s w f [] rest t n =
    let size : length (numeral_text (with_exponent s w f rest))
    ≡ length s + (length w + (length (fraction_text f) + length (exponent_text (with_exponent s w f rest)))) = with_exponent-length s w f rest in
    rw size (omega arith)
exponent-grows s w f (c ∷ tl) rest t n =
    let cs : Text = tl ++ rest in
    let es : Text = one_in is_sign cs in
    let digits : Text = run_in is_digit (drop (length es) cs) in
    let long : Numeral = with_mark s w f c cs in
    let short : Numeral = without_exponent s w f in
    let signed : begins_signed_digit (tl ++ rest) ≡ true =
    and-right (is_e c) (begins_signed_digit (tl ++ rest)) t in
    let unsigned' : begins_signed_digit tl ≡ false =
    ap (λ b. b && begins_signed_digit tl) (sym (and-left (is_e c) (begins_signed_digit (tl ++ rest)) t))
    ∙ n in
    let l : length tl ≤ length (one_in is_sign (tl ++ rest)) = short-tail tl rest signed unsigned' in
    let some : 1 ≤ length digits =
    some-length digits (run-some is_digit (drop (length es) cs) (behind-exponent_sign cs signed)) in
    let size : length (numeral_text long)
    ≡ length s + (length w + (length (fraction_text f) + suc (length (es ++ digits)))) =
    numeral-length long in
    let parts : length (es ++ digits) ≡ length es + length digits = length-append es digits in
    subst (λ m. length s + (length w + (length (fraction_text f) + suc (length tl))) ≤ length
    (numeral_text m)) (sym (pick-true (begins_exponent (c ∷ cs)) long short t))
    (rw size (rw parts (omega (arith, l, some))))

exponent-empty : (mark es digits : Text) → is_exponent mark es digits ≡ true → is_empty digits ≡ true
    → mark ++ (es ++ digits) ≡ []
exponent-empty [] [] [] h e = refl
exponent-empty [] [] (x ∷ xs) h e = absurd (false≢true h)
exponent-empty [] (g ∷ gs) digits h e = absurd (false≢true h)
exponent-empty (m ∷ ms) es [] h e =
    absurd (false≢true
    (and-right (list_all is_digit []) false
    (and-right (is_at_most_one is_sign es) (true && false)
    (and-right (is_empty ms) (is_at_most_one is_sign es && (true && false))
    (and-right (is_e m) (is_empty ms && (is_at_most_one is_sign es && (true && false))) h)))))
exponent-empty (m ∷ ms) es (x ∷ xs) h e = absurd (false≢true e)

-- a number before a unit is the one that is computed, or the computed number is no shorter than both
pub unit-split : (w : Numeral) (unit tail rest : Text) → IsNumeral w → IsName unit true tail rest
    → is_empty w.exponent && begins_exponent tail ≡ false
    → (numeral_in (numeral_text w ++ (tail ++ rest))
    ≡ w) ⊎ (length (numeral_text w) + length tail ≤ length
    (numeral_text (numeral_in (numeral_text w ++ (tail ++ rest)))))
unit-split w unit tail rest h i n =
    let other : IsOther (tail ++ rest) =
    subst (λ xs. IsOther (xs ++ rest)) (sym i.spelling) (ident-other i.parts rest i.identifier) in
    elim (cases_Bool (is_empty w.exponent && begins_exponent (tail ++ rest))) [
      | inr f ↦ inl (numeral-is w (tail ++ rest) h other f)
      | inl t ↦
          let empty : is_empty w.exponent ≡ true =
          and-left (is_empty w.exponent) (begins_exponent (tail ++ rest)) t in
          let none : exponent_text w ≡ [] =
          exponent-empty w.mark w.exponent_sign w.exponent h.exponent empty in
          let no_exponent : begins_exponent tail ≡ false = ap (λ b. b && begins_exponent tail) (sym empty)
          ∙ n in
          let is : numeral_in (numeral_text w ++ (tail ++ rest))
          ≡ with_exponent w.sign w.integer w.fraction (tail ++ rest) =
          behind-sign-is w (tail ++ rest) h
          ∙ (ap (λ xs. with_integer w.sign
          (w.integer ++ (fraction_text w.fraction ++ (xs ++ (tail ++ rest))))) none
          ∙ parts-known w.sign w.integer w.fraction (tail ++ rest) h.integer h.fraction other) in
          let grows : length w.sign + (length w.integer + (length (fraction_text w.fraction) + length tail))
          ≤ length (numeral_text (with_exponent w.sign w.integer w.fraction (tail ++ rest))) =
          exponent-grows w.sign w.integer w.fraction tail rest
          (and-right (is_empty w.exponent) (begins_exponent (tail ++ rest)) t) no_exponent in
          let size : length (numeral_text w)
          ≡ length w.sign + (length
          w.integer + (length (fraction_text w.fraction) + length (exponent_text w))) =
          numeral-length w in
          let zero' : length (exponent_text w) ≡ 0 = ap length none in
          inr (subst (λ m. length (numeral_text w) + length tail ≤ length (numeral_text m)) (sym is)
          (omega (arith, grows, size, zero')))
    ]
