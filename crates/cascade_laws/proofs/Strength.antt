-- Strength is an order: it goes in one direction, and what is between is weaker or stronger.
use Rattle.std.proofs.Common.{◌≡◌, ◌∙◌, ap, sym, refl, ℕ, ◌==◌, nat_lt, if◌then◌else◌, Bool, true, false, arith}
use Rattle.std.proofs.lemmas.Bool.Decides.{nat_tests}
use Rattle.std.specs.Bool.{beq}
use Rattle.selectors_model.specs.declared.spec.Spec.{Spec}
use Rattle.selectors_model.specs.Specificity.{is_less_spec}
use Rattle.cascade_model.specs.Applied.{Applied}
use Rattle.cascade_model.specs.Order.{level_of, is_more_specific, is_stronger}

-- numbers are compared first, and then what is left
abbrev step : ℕ → ℕ → Bool → Bool
step a b rest = if a == b then rest else nat_lt a b

step-one_way : (a b : ℕ) (this that : Bool) → (this ≡ true → that ≡ false)
    → step a b this ≡ true → step b a that ≡ false
step-one_way a b this that rest e = grind (arith, nat_tests, rest, e)

step-between : (a b c : ℕ) (all first second : Bool) → (all ≡ true → first ≡ false → second ≡ true)
    → step a b all ≡ true → step a c first ≡ false → step c b second ≡ true
step-between a b c all first second rest e f = grind (arith, nat_tests, rest, e, f)

last-one_way : (a b : ℕ) → nat_lt a b ≡ true → nat_lt b a ≡ false
last-one_way a b e = grind (arith, nat_tests, e)

last-between : (a b c : ℕ) → nat_lt a b ≡ true → nat_lt a c ≡ false → nat_lt c b ≡ true
last-between a b c e f = grind (arith, nat_tests, e, f)

-- ---- specificity

spec-one_way : (s t : Spec) → is_less_spec s t ≡ true → is_less_spec t s ≡ false
spec-one_way s t =
    step-one_way s.ids t.ids (step s.classes t.classes (nat_lt s.types t.types))
    (step t.classes s.classes (nat_lt t.types s.types))
    (step-one_way s.classes t.classes (nat_lt s.types t.types) (nat_lt t.types s.types) (last-one_way s.types t.types))

spec-between : (s t u : Spec) → is_less_spec s t ≡ true → is_less_spec s u ≡ false → is_less_spec u t ≡ true
spec-between s t u =
    step-between s.ids t.ids u.ids (step s.classes t.classes (nat_lt s.types t.types))
    (step s.classes u.classes (nat_lt s.types u.types)) (step u.classes t.classes (nat_lt u.types t.types))
    (step-between s.classes t.classes u.classes (nat_lt s.types t.types) (nat_lt s.types u.types)
    (nat_lt u.types t.types) (last-between s.types t.types u.types))

-- ---- the `style` attribute

abbrev attribute : Applied → ℕ
attribute d = if d.in_attribute then 1 else 0

attribute-step : (x y rest : Bool)
    → (if beq x y then rest else x) ≡ step (if y then 1 else 0) (if x then 1 else 0) rest
attribute-step true true rest = refl
attribute-step true false rest = refl
attribute-step false true rest = refl
attribute-step false false rest = refl

-- weaker by what is not the level
abbrev less : Applied → Applied → Bool
less e d = step (attribute e) (attribute d) (is_less_spec e.specificity d.specificity)

less-one_way : (e d : Applied) → less e d ≡ true → less d e ≡ false
less-one_way e d =
    step-one_way (attribute e) (attribute d) (is_less_spec e.specificity d.specificity)
    (is_less_spec d.specificity e.specificity) (spec-one_way e.specificity d.specificity)

less-between : (e d f : Applied) → less e d ≡ true → less e f ≡ false → less f d ≡ true
less-between e d f =
    step-between (attribute e) (attribute d) (attribute f) (is_less_spec e.specificity d.specificity)
    (is_less_spec e.specificity f.specificity) (is_less_spec f.specificity d.specificity)
    (spec-between e.specificity d.specificity f.specificity)

-- ---- all

same-flipped : (m n : ℕ) → (m == n) ≡ (n == m)
same-flipped m n = grind (arith, nat_tests)

-- weaker
abbrev weaker : Applied → Applied → Bool
weaker e d = step (level_of e) (level_of d) (less e d)

stronger-weaker : (d e : Applied) → is_stronger d e ≡ weaker e d
stronger-weaker d e =
    ap (λ b. if b then is_more_specific d e else nat_lt (level_of e) (level_of d))
    (same-flipped (level_of d) (level_of e))
    ∙ ap (step (level_of e) (level_of d))
    (attribute-step d.in_attribute e.in_attribute (is_less_spec e.specificity d.specificity))

pub stronger-one_way : (d e : Applied) → is_stronger d e ≡ true → is_stronger e d ≡ false
stronger-one_way d e s =
    stronger-weaker e d
    ∙ step-one_way (level_of e) (level_of d) (less e d) (less d e) (less-one_way e d) (sym (stronger-weaker d e) ∙ s)

-- what is not stronger than the weaker of two is weaker than the other
pub stronger-between : (d e f : Applied) → is_stronger d e ≡ true → is_stronger f e ≡ false → is_stronger d f ≡ true
stronger-between d e f s t =
    stronger-weaker d f
    ∙ step-between (level_of e) (level_of d) (level_of f) (less e d) (less e f) (less f d) (less-between e d f)
    (sym (stronger-weaker d e) ∙ s) (sym (stronger-weaker f e) ∙ t)
