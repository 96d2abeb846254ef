-- Two texts are compared from the front on.
use Rattle.std.proofs.Common.{Equal, Greater, Less, List, None, Option, Some, [], ap, arith, false, inl, inr, is_some, length, eq-eqb, ne_eqb, refl, sym, true, ℕ, ◌++◌, ◌==◌, ◌∙◌, ◌∷◌, ◌≡◌}
use Rattle.std.proofs.lemmas.Bool.{cases_Bool, false≢true}
use Rattle.std.proofs.lemmas.Option.{none-some, same_Some}
use Rattle.std.proofs.lemmas.Str.{chars-nil, chars_past_char}
use Rattle.std.specs.Prelude.{encode_utf8, if◌then◌else◌, nat_lt}
use Rattle.std.specs.Str.{IsUtf8, chars}
use Rattle.std.specs.declared.str.Chars.{Chars}
use Rattle.std.specs.Str.Iter.{chars_rest, chars_steps}
use Rattle.custom_props.specs.inner.Places.{order_of}
use Rattle.css_model.specs.Classes.{Text}

order-step : (c d : ℕ) (cs ds : Text) → order_of (c ∷ cs) (d ∷ ds) ≡ (if c == d then order_of cs ds else if nat_lt c d then Less else Greater)
order-step c d cs ds = elim (cases_Bool (c == d)) [
  | inl t ↦ rw t refl
  | inr f ↦ rw f refl
]

-- both go on with the same code point
pub order-same : (bs cs bs' cs' : List ℕ) (c d : ℕ) → IsUtf8 bs → IsUtf8 cs → bs ≡ encode_utf8 c ++ bs' → cs ≡ encode_utf8 d ++ cs' → c ≡ d → order_of (chars bs) (chars cs) ≡ order_of (chars bs') (chars cs')
order-same bs cs bs' cs' c d u v e f same =
    rw (chars_past_char bs bs' c u e, chars_past_char cs cs' d v f) (order-step c d (chars bs') (chars cs') ∙ rw (eq-eqb c d same) refl)

-- they go on with two
pub order-other : (bs cs bs' cs' : List ℕ) (c d : ℕ) → IsUtf8 bs → IsUtf8 cs → bs ≡ encode_utf8 c ++ bs' → cs ≡ encode_utf8 d ++ cs' → (c ≡ d → ⊥) → order_of (chars bs) (chars cs) ≡ (if nat_lt c d then Less else Greater)
order-other bs cs bs' cs' c d u v e f other =
    rw (chars_past_char bs bs' c u e, chars_past_char cs cs' d v f) (order-step c d (chars bs') (chars cs') ∙ rw (ne_eqb c d other) refl)

no-chars : (bs : List ℕ) → length bs ≡ 0 → chars bs ≡ []
no-chars [] h = chars-nil
no-chars (b ∷ bs) h = absurd (omega (arith, h))

-- the second has ended
pub order-greater : (bs cs bs' : List ℕ) (c : ℕ) → IsUtf8 bs → bs ≡ encode_utf8 c ++ bs' → length cs ≡ 0 → order_of (chars bs) (chars cs) ≡ Greater
order-greater bs cs bs' c u e none = rw (chars_past_char bs bs' c u e, no-chars cs none) refl

-- the first has ended
pub order-less : (bs cs cs' : List ℕ) (d : ℕ) → length bs ≡ 0 → IsUtf8 cs → cs ≡ encode_utf8 d ++ cs' → order_of (chars bs) (chars cs) ≡ Less
order-less bs cs cs' d none v f = rw (no-chars bs none, chars_past_char cs cs' d v f) refl

-- both have
pub order-equal : (bs cs : List ℕ) → length bs ≡ 0 → length cs ≡ 0 → order_of (chars bs) (chars cs) ≡ Equal
order-equal bs cs none none' = rw (no-chars bs none, no-chars cs none') refl

-- what a call of `next` gave
pub next-some : (s t : Chars) (r : Option ℕ) (c : ℕ) → r ≡ Some c → chars_steps s r t → chars_rest s ≡ encode_utf8 c ++ chars_rest t
next-some s t None c e h = absurd (none-some c e)
next-some s t (Some d) c e h = h.0 ∙ ap (λ (x : ℕ). encode_utf8 x ++ chars_rest t) (same_Some d c e)

pub next-none : (s t : Chars) (r : Option ℕ) → r ≡ None → chars_steps s r t → length (chars_rest s) ≡ 0
next-none s t None e h = h.0.0
next-none s t (Some d) e h = absurd (none-some d (sym e))

pub next-is : (r : Option ℕ) → is_some r ≡ true → (c : ℕ) × (r ≡ Some c)
next-is (Some c) h = (c, refl)
next-is None h = absurd (false≢true h)

pub next-is-not : (r : Option ℕ) → is_some r ≡ false → r ≡ None
next-is-not (Some c) h = absurd (false≢true (sym h))
next-is-not None h = refl
