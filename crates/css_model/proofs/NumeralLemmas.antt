-- Numbers in front of a text.
use Rattle.std.proofs.Common.{◌≡◌, ◌∙◌, ap, refl, subst, ℕ, ◌==◌, [], ◌∷◌, ◌++◌, length, drop, true, false, ◌&&◌, append_assoc, eqb-true, inl, inr}
use Rattle.std.proofs.lemmas.Bool.{cases_Bool, true≢false, false≢true}
use Rattle.std.specs.List.{list_all}
use Rattle.css_model.specs.Classes.{Text, full_stop, is_digit, is_sign, begins, is_empty, is_at_most_one}
use Rattle.css_model.specs.Numerals.{Numeral, fraction_text, exponent_text, numeral_text, IsNumeral}
use Rattle.css_model.specs.inner.Fronts.{one_in, run_in, begins_unsigned, would_start_number}
use Rattle.css_model.proofs.Tests.{and-left, and-right, or-left, or-cases, pick-true, pick-false}

-- a number of these parts before the exponent, with none
abbrev pub without_exponent : Text → Text → Text → Numeral
without_exponent s w f =
    record { sign = s; integer = w; fraction = f; mark = []; exponent_sign = []; exponent = [] }

-- a number of these parts before the exponent, with this mark and sign of one, and the digits in
-- front of the text
abbrev pub with_digits : Text → Text → Text → ℕ → Text → Text → Numeral
with_digits s w f m es cs =
    record {
      sign = s;
      integer = w;
      fraction = f;
      mark = m ∷ [];
      exponent_sign = es;
      exponent = run_in is_digit cs;
    }

-- the same, with the sign and the digits in front of the text
abbrev pub with_mark : Text → Text → Text → ℕ → Text → Numeral
with_mark s w f m cs = with_digits s w f m (one_in is_sign cs) (drop (length (one_in is_sign cs)) cs)

-- a sign is not a digit
pub digit-no_sign : (d : ℕ) → is_digit d ≡ true → is_sign d ≡ false
digit-no_sign d h = elim (cases_Bool (is_sign d)) [
  | inl t ↦ elim (or-cases (d == 43) (d == 45) t) [
    | inl e ↦ absurd (false≢true (subst (λ x. is_digit x ≡ true) (eqb-true d 43 e) h))
    | inr e ↦ absurd (false≢true (subst (λ x. is_digit x ≡ true) (eqb-true d 45 e) h))
  ]
  | inr f ↦ f
]

-- digits before a point or after one
pub record Unsigned (cs : Text) : Type 0 where
  pub number : begins_unsigned cs ≡ true
  pub no_sign : begins is_sign cs ≡ false

pub unsigned : (integer fraction behind : Text) → list_all is_digit integer ≡ true
    → list_all is_digit fraction ≡ true → is_empty integer && is_empty fraction ≡ false
    → Unsigned (integer ++ (fraction_text fraction ++ behind))
unsigned (d ∷ ds) fraction behind w f s =
    let here : is_digit d ≡ true = and-left (is_digit d) (list_all is_digit ds) w in
    record {
      number = or-left (is_digit d)
          ((d == full_stop) && begins is_digit (ds ++ (fraction_text fraction ++ behind))) here;
      no_sign = digit-no_sign d here;
    }
unsigned [] [] behind w f s = absurd (true≢false s)
unsigned [] (d ∷ ds) behind w f s =
    record { number = and-left (is_digit d) (list_all is_digit ds) f; no_sign = refl }

would_start_number-unsigned : (cs : Text) → Unsigned cs → would_start_number cs ≡ true
would_start_number-unsigned [] u = u.number
would_start_number-unsigned (c ∷ cs) u = ap begins_unsigned (pick-false (is_sign c) cs (c ∷ cs) u.no_sign)
    ∙ u.number

would_start_number-signed : (sign cs : Text) → is_at_most_one is_sign sign ≡ true → Unsigned cs
    → would_start_number (sign ++ cs) ≡ true
would_start_number-signed [] cs s u = would_start_number-unsigned cs u
would_start_number-signed (c ∷ []) cs s u =
    ap begins_unsigned (pick-true (is_sign c) cs (c ∷ cs) (and-left (is_sign c) true s)) ∙ u.number
would_start_number-signed (c ∷ d ∷ ds) cs s u = absurd (false≢true (and-right (is_sign c) false s))

-- the text of a number, cut into its parts
pub numeral-unjoined : (w : Numeral) (rest : Text)
    → numeral_text w ++ rest
    ≡ w.sign ++ (w.integer ++ (fraction_text w.fraction ++ (exponent_text w ++ rest)))
numeral-unjoined w rest =
    append_assoc w.sign (w.integer ++ (fraction_text w.fraction ++ exponent_text w)) rest
    ∙ ap (λ xs. w.sign ++ xs) (append_assoc w.integer (fraction_text w.fraction ++ exponent_text w) rest
    ∙ ap (λ xs. w.integer ++ xs) (append_assoc (fraction_text w.fraction) (exponent_text w) rest))

-- a number of the definition begins as numbers do
pub numeral-begins : (w : Numeral) (rest : Text) → IsNumeral w
    → would_start_number (numeral_text w ++ rest) ≡ true
numeral-begins w rest h =
    ap would_start_number (numeral-unjoined w rest)
    ∙ would_start_number-signed w.sign
    (w.integer ++ (fraction_text w.fraction ++ (exponent_text w ++ rest))) h.sign
    (unsigned w.integer w.fraction (exponent_text w ++ rest) h.integer h.fraction h.some_digit)
