-- Whether a text is a name of a custom property, by its bytes.
use Rattle.std.proofs.Common.{◌≡◌, ◌∙◌, sym, ap, refl, ℕ, ◌<◌, ◌==◌, ◌&&◌, nat_lt, List, [], ◌∷◌, length, length-append, eqb-true, Bool, true, false, arith, codes}
use Rattle.std.proofs.Math.Utf8.{encodes, encode}
use Rattle.std.proofs.lemmas.Bool.{false≢true}
use Rattle.std.proofs.lemmas.Bool.Decides.{nat_tests}
use Rattle.std.proofs.lemmas.Str.{encodes-chars}
use Rattle.std.specs.Str.{chars, IsUtf8}
use Rattle.page_laws.proofs.Options.{both-true}
use Rattle.css_model.specs.Classes.{Text, has_front}
use Rattle.css_tokens.proofs.Utf8Fronts.{some-byte, low-bytes, front-bytes}
use Rattle.custom_model.specs.References.{is_custom_name}

more-than-two : (n : ℕ) → 2 < n → nat_lt 2 n ≡ true
more-than-two n h = grind (arith, nat_tests)

-- where two hyphens are in front, there are more bytes exactly where there are more code points
longer : (cs : Text) → has_front (codes "--") cs ≡ true → nat_lt 2 (length (encodes cs)) ≡ nat_lt 2 (length cs)
longer [] h = absurd (false≢true h)
longer (c ∷ []) h = absurd (false≢true (sym (and-false (c == 45)) ∙ h))
  where
    and-false : (b : Bool) → (b && false) ≡ false
    and-false true = refl
    and-false false = refl
longer (c ∷ d ∷ []) h =
    let first = both-true (c == 45) (has_front (45 ∷ []) (d ∷ [])) h in
    let second = both-true (d == 45) (has_front [] []) first.1 in
    let cs : c ≡ 45 = eqb-true c 45 first.0 in
    let ds : d ≡ 45 = eqb-true d 45 second.0 in
    ap (λ bs. nat_lt 2 (length bs)) (low-bytes c (d ∷ []) (omega (arith, cs)) ∙ ap (λ bs. c ∷ bs) (low-bytes d [] (omega (arith, ds))))
longer (c ∷ d ∷ e ∷ cs) h =
    let one = some-byte c in
    let two = some-byte d in
    let three = some-byte e in
    let all = length-append (encode c) (encodes (d ∷ e ∷ cs)) in
    let rest = length-append (encode d) (encodes (e ∷ cs)) in
    let last = length-append (encode e) (encodes cs) in
    more-than-two (length (encodes (c ∷ d ∷ e ∷ cs))) (omega (arith, one, two, three, all, rest, last))
    ∙ sym (more-than-two (length (c ∷ d ∷ e ∷ cs)) (omega arith))

encoded : (cs : Text) → (nat_lt 2 (length (encodes cs)) && has_front (codes "--") (encodes cs)) ≡ is_custom_name cs
encoded cs =
    let front : has_front (codes "--") (encodes cs) ≡ has_front (codes "--") cs = front-bytes (codes "--") cs (omega arith, (omega arith, tt)) in
    ap (λ b. nat_lt 2 (length (encodes cs)) && b) front
    ∙ by-front (has_front (codes "--") cs) refl
  where
    by-front : (b : Bool) → has_front (codes "--") cs ≡ b → (nat_lt 2 (length (encodes cs)) && b) ≡ (b && nat_lt 2 (length cs))
    by-front true h = and-true (nat_lt 2 (length (encodes cs))) ∙ longer cs h
      where
        and-true : (a : Bool) → (a && true) ≡ a
        and-true true = refl
        and-true false = refl
    by-front false h = and-false (nat_lt 2 (length (encodes cs)))
      where
        and-false : (a : Bool) → (a && false) ≡ false
        and-false true = refl
        and-false false = refl

pub custom_name_is : (bs : List ℕ) → IsUtf8 bs
    → (nat_lt 2 (length bs) && has_front (codes "--") bs) ≡ is_custom_name (chars bs)
custom_name_is bs u =
    ap (λ l. nat_lt 2 (length l) && has_front (codes "--") l) (sym (encodes-chars bs u)) ∙ encoded (chars bs)
