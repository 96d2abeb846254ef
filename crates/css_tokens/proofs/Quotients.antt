-- The quotients by which a number's point is moved.
use Rattle.std.proofs.Common.{◌≡◌, ◌∙◌, sym, ap, ap₂, refl, subst, ℕ, zero, suc, ◌+◌, ◌*◌, ◌-◌, ◌/◌, ◌^◌, ◌<◌, ◌≤◌, [], ◌∷◌, ◌++◌, length, take, drop, length-append, length-drop, append_assoc, true, ◌&&◌, arith, inl, inr}
use Rattle.std.proofs.lemmas.Bool.{cases_lt}
use Rattle.std.proofs.lemmas.Bool.Decides.{nat_tests}
use Rattle.std.specs.Prelude.{nat_le}
use Rattle.std.proofs.lemmas.Nat.{pow-add, div-mul-add}
use Rattle.std.proofs.lemmas.List.{take-append-drop, take_all}
use Rattle.std.proofs.Math.Nat.{pow-suc, mul-le-mul_right, mul-lt-mul_of_pos_right, div-eq_of_lt, pow-le-pow_right, one-le-pow}
use Rattle.std.proofs.lemmas.List.Folds.{list_all-append}
use Rattle.std.specs.List.{list_all}
use Rattle.css_model.specs.Classes.{Text, is_digit}
use Rattle.css_model.specs.Numerals.{decimal_after}
use Rattle.css_model.proofs.Tests.{and-left, and-right}

-- ---- digits

pub decimal-append : (n : ℕ) (xs ys : Text) → decimal_after n (xs ++ ys) ≡ decimal_after (decimal_after n xs) ys
decimal-append n [] ys = refl
decimal-append n (c ∷ xs) ys = decimal-append (n * 10 + (c - 48)) xs ys

spread : (n d p r : ℕ) → (n * 10 + d) * p + r ≡ n * (p * 10) + (d * p + r)
spread n d p r = grind arith

no-more : (d : ℕ) → 0 * 10 + d ≡ d
no-more d = omega arith

-- digits behind a number
pub decimal-split : (n : ℕ) (ys : Text) → decimal_after n ys ≡ n * 10 ^ length ys + decimal_after 0 ys
decimal-split n [] = omega arith
decimal-split n (c ∷ cs) =
    let d : ℕ = c - 48 in
    let p : ℕ = 10 ^ length cs in
    let first : decimal_after (0 * 10 + d) cs ≡ d * p + decimal_after 0 cs = ap (λ k. decimal_after k cs) (no-more d) ∙ decimal-split d cs in
    decimal-split (n * 10 + d) cs ∙ (spread n d p (decimal_after 0 cs) ∙ (ap (λ k. n * k + (d * p + decimal_after 0 cs)) (sym (pow-suc 10 (length cs))) ∙ ap (λ k. n * 10 ^ suc (length cs) + k) (sym first)))

digit-small : (c : ℕ) → is_digit c ≡ true → c - 48 ≤ 9
digit-small c h = let below : nat_le c 57 ≡ true = and-right (nat_le 48 c) (nat_le c 57) h in grind (arith, nat_tests)

-- digits write less than the power of ten behind them
pub decimal-below : (ys : Text) → list_all is_digit ys ≡ true → decimal_after 0 ys < 10 ^ length ys
decimal-below [] h = omega arith
decimal-below (c ∷ cs) h =
    let d : ℕ = c - 48 in
    let p : ℕ = 10 ^ length cs in
    let more : decimal_after 0 cs < p = decimal-below cs (and-right (is_digit c) (list_all is_digit cs) h) in
    let small : d ≤ 9 = digit-small c (and-left (is_digit c) (list_all is_digit cs) h) in
    let first : decimal_after 0 (c ∷ cs) ≡ d * p + decimal_after 0 cs = ap (λ k. decimal_after k cs) (no-more d) ∙ decimal-split d cs in
    let tens : d * p ≤ 9 * p = mul-le-mul_right p small in
    let power : 10 ^ suc (length cs) ≡ p * 10 = pow-suc 10 (length cs) in
    rw first (rw power (omega (arith, more, tens)))

-- ---- quotients

quotient-is : (n x p r : ℕ) → n ≡ x * p + r → r < p → n / p ≡ x
quotient-is n x p r e l = rw e (div-mul-add x p r l)

pub ten-some : (j : ℕ) → 1 ≤ 10 ^ j
ten-some j = one-le-pow j 10 (omega arith)

-- digits cut off, of a number that was multiplied
cut-off : (a b k j : ℕ) → b < 10 ^ k → ((a * 10 ^ k + b) * 10 ^ j) / 10 ^ (k + j) ≡ a
cut-off a b k j l =
    let p : ℕ = 10 ^ j in
    let q : ℕ = 10 ^ k in
    let some : 1 ≤ p = ten-some j in
    rw (pow-add 10 k j) (quotient-is ((a * q + b) * p) a (q * p) (b * p) (grind arith) (mul-lt-mul_of_pos_right l some))

-- zeros added, where some are cut off again
cut-zeros : (a k j : ℕ) → (a * 10 ^ (k + j)) / 10 ^ k ≡ a * 10 ^ j
cut-zeros a k j =
    let p : ℕ = 10 ^ j in
    let q : ℕ = 10 ^ k in
    let some : 1 ≤ q = ten-some k in
    rw (pow-add 10 k j) (quotient-is (a * (q * p)) (a * p) q 0 (grind arith) some)

cut-all : (n b k j : ℕ) → n < 10 ^ b → b ≤ k → (n * 10 ^ j) / 10 ^ (k + j) ≡ 0
cut-all n b k j l h =
    let p : ℕ = 10 ^ j in
    let some : 1 ≤ p = ten-some j in
    let power : 10 ^ b ≤ 10 ^ k = pow-le-pow_right (ten-some 1) h in
    let below : n < 10 ^ k = omega (arith, l, power) in
    rw (pow-add 10 k j) (div-eq_of_lt (mul-lt-mul_of_pos_right below some))

-- ---- the point of a number

all-take : (ys : Text) (n : ℕ) → list_all is_digit ys ≡ true → list_all is_digit (drop n ys) ≡ true
all-take [] zero h = refl
all-take [] (suc n) h = refl
all-take (c ∷ cs) zero h = h
all-take (c ∷ cs) (suc n) h = all-take cs n (and-right (is_digit c) (list_all is_digit cs) h)

-- the point goes right, over the digits behind it and then over zeros
pub point-right : (whole fraction : Text) (places : ℕ) → list_all is_digit fraction ≡ true
    → (decimal_after 0 (whole ++ fraction) * 10 ^ places) / 10 ^ length fraction ≡ decimal_after 0 (whole ++ take places fraction) * 10 ^ (places - length fraction)
point-right whole fraction places h = elim (cases_lt places (length fraction)) [
  | inl few ↦
      let kept : Text = take places fraction in
      let left : Text = drop places fraction in
      let a : ℕ = decimal_after 0 (whole ++ kept) in
      let size : length left + places ≡ length fraction = rw (length-drop places fraction) (omega (arith, few)) in
      let none : places - length fraction ≡ 0 = omega (arith, few) in
      let whole-is : decimal_after 0 (whole ++ fraction) ≡ a * 10 ^ length left + decimal_after 0 left =
      ap (λ xs. decimal_after 0 (whole ++ xs)) (sym (take-append-drop places fraction)) ∙ (ap (decimal_after 0) (sym (append_assoc whole kept left)) ∙ (decimal-append 0 (whole ++ kept) left ∙ decimal-split a left)) in
      let cut : ((a * 10 ^ length left + decimal_after 0 left) * 10 ^ places) / 10 ^ (length left + places) ≡ a = cut-off a (decimal_after 0 left) (length left) places (decimal-below left (all-take fraction places h)) in
      rw (none, whole-is, ← size, cut) (omega arith)
  | inr many ↦
      let same : take places fraction ≡ fraction = take_all places fraction many in
      let power : length fraction + (places - length fraction) ≡ places = omega (arith, many) in
      let cut : (decimal_after 0 (whole ++ fraction) * 10 ^ (length fraction + (places - length fraction))) / 10 ^ length fraction ≡ decimal_after 0 (whole ++ fraction) * 10 ^ (places - length fraction) = cut-zeros (decimal_after 0 (whole ++ fraction)) (length fraction) (places - length fraction) in
      rw same (subst (λ n. (decimal_after 0 (whole ++ fraction) * 10 ^ n) / 10 ^ length fraction ≡ decimal_after 0 (whole ++ fraction) * 10 ^ (places - length fraction)) power cut)
]

-- the point goes left, over the digits before it; j places of the way are taken back
pub point-left : (whole fraction : Text) (places j : ℕ) → list_all is_digit whole ≡ true → list_all is_digit fraction ≡ true
    → (decimal_after 0 (whole ++ fraction) * 10 ^ j) / 10 ^ ((length fraction + places) + j) ≡ decimal_after 0 (take (length whole - places) whole)
point-left whole fraction places j h k = elim (cases_lt (length whole) places) [
  | inl far ↦
      let none : length whole - places ≡ 0 = omega (arith, far) in
      let all : list_all is_digit (whole ++ fraction) ≡ true = list_all-append is_digit whole fraction ∙ ap₂ ◌&&◌ h k in
      let size : length (whole ++ fraction) ≡ length whole + length fraction = length-append whole fraction in
      rw none (cut-all (decimal_after 0 (whole ++ fraction)) (length (whole ++ fraction)) (length fraction + places) j (decimal-below (whole ++ fraction) all) (omega (arith, size, far)))
  | inr near ↦
      let m : ℕ = length whole - places in
      let kept : Text = take m whole in
      let left : Text = drop m whole ++ fraction in
      let a : ℕ = decimal_after 0 kept in
      let size : length left ≡ length fraction + places = length-append (drop m whole) fraction ∙ rw (length-drop m whole) (omega (arith, near)) in
      let all : list_all is_digit left ≡ true = list_all-append is_digit (drop m whole) fraction ∙ ap₂ ◌&&◌ (all-take whole m h) k in
      let whole-is : decimal_after 0 (whole ++ fraction) ≡ a * 10 ^ length left + decimal_after 0 left =
      ap (λ xs. decimal_after 0 (xs ++ fraction)) (sym (take-append-drop m whole)) ∙ (ap (decimal_after 0) (append_assoc kept (drop m whole) fraction) ∙ (decimal-append 0 kept left ∙ decimal-split a left)) in
      rw (whole-is, ← size) (cut-off a (decimal_after 0 left) (length left) j (decimal-below left all))
]
