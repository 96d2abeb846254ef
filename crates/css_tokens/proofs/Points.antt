-- The point of a number that is moved, and limits.
use Rattle.std.proofs.Common.{◌≡◌, ◌∙◌, sym, ap, refl, ℕ, ◌+◌, ◌*◌, ◌-◌, ◌/◌, ◌^◌, ◌<◌, ◌≤◌, min, ◌++◌, length, take, true, arith, inl, inr}
use Rattle.std.proofs.lemmas.Bool.{cases_lt}
use Rattle.std.proofs.lemmas.List.{take_all}
use Rattle.std.proofs.lemmas.Nat.{pow-add}
use Rattle.std.proofs.Math.Nat.{mul-le-mul_right, le-mul_of_pos_right, mul_assoc, mul-div-mul_right}
use Rattle.std.specs.List.{list_all}
use Rattle.css_model.specs.Classes.{Text, is_digit}
use Rattle.css_model.specs.Numerals.{decimal_after}
use Rattle.css_tokens.proofs.LimitedDecimals.{decimal-limited, zeros-many}
use Rattle.css_tokens.proofs.Quotients.{decimal-append, ten-some, point-right, point-left}

limited-times : (l x p : ℕ) → 1 ≤ p → min l (min l x * p) ≡ min l (x * p)
limited-times l x p h = elim (cases_lt x l) [
  | inl low ↦ let same : min l x ≡ x = omega (arith, low) in rw same refl
  | inr high ↦
      let same : min l x ≡ l = omega (arith, high) in
      let first : l ≤ l * p = le-mul_of_pos_right l h in
      let second : l * p ≤ x * p = mul-le-mul_right p high in
      rw same (omega (arith, first, second))
]

take-within : (n : ℕ) (xs : Text) → take (min n (length xs)) xs ≡ take n xs
take-within n xs = elim (cases_lt n (length xs)) [
  | inl few ↦ ap (λ k. take k xs) (omega (arith, few))
  | inr many ↦ let same : min n (length xs) ≡ length xs = omega (arith, many) in rw same (take_all (length xs) xs (omega arith) ∙ sym (take_all n xs many))
]

-- digits are read as far as the limit, and then zeros
pub read-right : (l : ℕ) (whole fraction : Text) (places kept v w r : ℕ) → kept ≡ min places (length fraction) → v ≡ min l (decimal_after 0 whole) → w ≡ min l (decimal_after v (take kept fraction)) → r ≡ min l (w * 10 ^ (places - kept))
    → r ≡ min l (decimal_after 0 (whole ++ take places fraction) * 10 ^ (places - length fraction))
read-right l whole fraction places kept v w r k a b c =
    let front : take kept fraction ≡ take places fraction = ap (λ n. take n fraction) k ∙ take-within places fraction in
    let zeros : places - kept ≡ places - length fraction = omega (arith, k) in
    let value : w ≡ min l (decimal_after 0 (whole ++ take places fraction)) =
    b ∙ (ap (λ n. min l (decimal_after n (take kept fraction))) a ∙ (decimal-limited l (decimal_after 0 whole) (take kept fraction)
    ∙ (ap (λ xs. min l (decimal_after (decimal_after 0 whole) xs)) front ∙ ap (min l) (sym (decimal-append 0 whole (take places fraction)))))) in
    c ∙ (ap (λ n. min l (n * 10 ^ (places - kept))) value
    ∙ (limited-times l (decimal_after 0 (whole ++ take places fraction)) (10 ^ (places - kept)) (ten-some (places - kept))
    ∙ ap (λ z. min l (decimal_after 0 (whole ++ take places fraction) * 10 ^ z)) zeros))

-- ---- exponents beyond all digits

-- where the exponent is limited, what it moves the point over is the same
enlarged-far : (l : ℕ) (whole fraction : Text) (e places : ℕ) → l ≤ 10 ^ 15 → length fraction < 2 ^ 64 → places ≡ min (2 ^ 65) e
    → min l (decimal_after 0 (whole ++ take (6 + places) fraction) * 10 ^ (6 + places - length fraction)) ≡ min l (decimal_after 0 (whole ++ take (6 + e) fraction) * 10 ^ (6 + e - length fraction))
enlarged-far l whole fraction e places h f p = elim (cases_lt e (2 ^ 65)) [
  | inl near ↦ let same : places ≡ e = omega (arith, p, near) in rw same refl
  | inr far ↦
      let a : take (6 + places) fraction ≡ fraction = take_all (6 + places) fraction (omega (arith, p, far, f)) in
      let b : take (6 + e) fraction ≡ fraction = take_all (6 + e) fraction (omega (arith, far, f)) in
      rw (a, b) (sym (zeros-many l (decimal_after 0 (whole ++ fraction)) (6 + places - length fraction) h (omega (arith, p, far, f))) ∙ zeros-many l (decimal_after 0 (whole ++ fraction)) (6 + e - length fraction) h (omega (arith, far, f)))
]

pub enlarged-is : (l : ℕ) (whole fraction : Text) (e places r : ℕ) → l ≤ 10 ^ 15 → list_all is_digit fraction ≡ true → length fraction < 2 ^ 64 → places ≡ min (2 ^ 65) e
    → r ≡ min l (decimal_after 0 (whole ++ take (6 + places) fraction) * 10 ^ (6 + places - length fraction))
    → r ≡ min l ((decimal_after 0 (whole ++ fraction) * 10 ^ (6 + e)) / 10 ^ (length fraction + 0))
enlarged-is l whole fraction e places r h d f p is =
    let plain : length fraction + 0 ≡ length fraction = omega arith in
    is ∙ (enlarged-far l whole fraction e places h f p ∙ (ap (min l) (sym (point-right whole fraction (6 + e) d)) ∙ ap (λ n. min l ((decimal_after 0 (whole ++ fraction) * 10 ^ (6 + e)) / 10 ^ n)) (sym plain)))

-- ---- negative exponents

-- the same power above and below
both-powers : (d f k j : ℕ) → k + j ≡ 6 → (d * 10 ^ k) / 10 ^ f ≡ (d * 10 ^ (6 + 0)) / 10 ^ (f + j)
both-powers d f k j e =
    let above : d * 10 ^ (6 + 0) ≡ d * 10 ^ k * 10 ^ j = ap (λ n. d * 10 ^ n) (sym e) ∙ (ap (λ n. d * n) (pow-add 10 k j) ∙ sym (mul_assoc d (10 ^ k) (10 ^ j))) in
    rw (above, pow-add 10 f j) (sym (mul-div-mul_right (d * 10 ^ k) (10 ^ f) (ten-some j)))

-- places that are taken back
pub reduced-near : (l : ℕ) (whole fraction : Text) (e places r : ℕ) → list_all is_digit fraction ≡ true → places ≡ min (2 ^ 65) e → places < 6
    → r ≡ min l (decimal_after 0 (whole ++ take (6 - places) fraction) * 10 ^ (6 - places - length fraction))
    → r ≡ min l ((decimal_after 0 (whole ++ fraction) * 10 ^ (6 + 0)) / 10 ^ (length fraction + e))
reduced-near l whole fraction e places r d p h is =
    let back : 6 - places + e ≡ 6 = omega (arith, p, h) in
    is ∙ (ap (min l) (sym (point-right whole fraction (6 - places) d)) ∙ ap (min l) (both-powers (decimal_after 0 (whole ++ fraction)) (length fraction) (6 - places) e back))

pub reduced-far : (l : ℕ) (whole fraction : Text) (e places r : ℕ) → list_all is_digit whole ≡ true → list_all is_digit fraction ≡ true → length whole < 2 ^ 64 → places ≡ min (2 ^ 65) e → 6 ≤ places
    → r ≡ min l (decimal_after 0 (take (length whole - (places - 6)) whole))
    → r ≡ min l ((decimal_after 0 (whole ++ fraction) * 10 ^ (6 + 0)) / 10 ^ (length fraction + e))
reduced-far l whole fraction e places r a b f p h is =
    let same : length whole - (places - 6) ≡ length whole - (e - 6) = omega (arith, p, h, f) in
    let power : (length fraction + (e - 6)) + 6 ≡ length fraction + e = omega (arith, p, h) in
    is ∙ (ap (λ n. min l (decimal_after 0 (take n whole))) same
    ∙ (ap (min l) (sym (point-left whole fraction (e - 6) 6 a b)) ∙ ap (λ n. min l ((decimal_after 0 (whole ++ fraction) * 10 ^ 6) / 10 ^ n)) power))
