-- What decimal digits write, up to a limit.
use Rattle.std.proofs.Common.{◌≡◌, ◌∙◌, sym, ap, refl, ℕ, zero, suc, ◌+◌, ◌*◌, ◌-◌, ◌^◌, ◌<◌, ◌≤◌, min, [], ◌∷◌, length, get_or, drop, drop-cons, add-one, arith, inl, inr}
use Rattle.std.proofs.Math.Nat.{pow-suc, mul_assoc, pow-le-pow_right}
use Rattle.std.proofs.lemmas.Bool.{cases_lt}
use Rattle.css_model.specs.Classes.{Text}
use Rattle.css_model.specs.Numerals.{decimal_after}

min-same : (a b : ℕ) → min a (min a b) ≡ min a b
min-same a b = omega arith

-- a digit behind a number that was limited
one-digit : (l m d : ℕ) → min l (min l m * 10 + d) ≡ min l (m * 10 + d)
one-digit l m d = omega arith

-- digits behind a number that was limited
pub decimal-limited : (l m : ℕ) (cs : Text) → min l (decimal_after (min l m) cs) ≡ min l (decimal_after m cs)
decimal-limited l m [] = min-same l m
decimal-limited l m (c ∷ cs) =
    sym (decimal-limited l (min l m * 10 + (c - 48)) cs) ∙ (ap (λ n. min l (decimal_after n cs)) (one-digit l m (c - 48)) ∙ decimal-limited l (m * 10 + (c - 48)) cs)

-- one digit more was read
pub decimal-more : (l m m' : ℕ) (cs : Text) (i d : ℕ) → i < length cs → m' ≡ min (m * 10 + (get_or cs i d - 48)) l → min l (decimal_after m' (drop (i + 1) cs)) ≡ min l (decimal_after m (drop i cs))
decimal-more l m m' cs i d h e =
    let limited : m' ≡ min l (m * 10 + (get_or cs i d - 48)) = omega (arith, e) in
    rw limited (rw (drop-cons cs i d) (decimal-limited l (m * 10 + (get_or cs i d - 48)) (drop (i + 1) cs) ∙ ap (λ n. min l (decimal_after (m * 10 + (get_or cs i d - 48)) (drop n cs))) (add-one i)))

-- ---- zeros

-- one zero more
pub zeros-more : (l v m n : ℕ) → v ≡ min l (m * 10 ^ n) → min (v * 10) l ≡ min l (m * 10 ^ (n + 1))
zeros-more l v m n e =
    let power : m * 10 ^ (n + 1) ≡ m * 10 ^ n * 10 = rw (add-one n) (ap (λ p. m * p) (pow-suc 10 n) ∙ sym (mul_assoc m (10 ^ n) 10)) in
    rw power (omega (arith, e))

ten-more : (m p : ℕ) → p ≤ suc m * p
ten-more m p = omega arith

-- fifteen zeros pass any limit up to there
pub zeros-many : (l m z : ℕ) → l ≤ 10 ^ 15 → 15 ≤ z → min l (m * 10 ^ 15) ≡ min l (m * 10 ^ z)
zeros-many l zero z h k = omega arith
zeros-many l (suc m) z h k =
    let power : 10 ^ 15 ≤ 10 ^ z = pow-le-pow_right (omega arith) k in
    let more : 10 ^ z ≤ suc m * 10 ^ z = ten-more m (10 ^ z) in
    omega (arith, h, power, more, ten-more m (10 ^ 15))

pub zeros-all : (l m z n : ℕ) → l ≤ 10 ^ 15 → n ≡ min z 15 → min l (m * 10 ^ n) ≡ min l (m * 10 ^ z)
zeros-all l m z n h e = elim (cases_lt z 15) [
  | inl few ↦ let same : n ≡ z = omega (arith, e, few) in rw same refl
  | inr many ↦ let same : n ≡ 15 = omega (arith, e, many) in rw same (zeros-many l m z h many)
]
