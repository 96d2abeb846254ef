-- Products of three integers.
use Rattle.std.proofs.Common.{◌≡◌, ◌∙◌, sym, ap, ℕ, zero, suc, ◌*◌, ℤ, pos, negsuc, ◌*ℤ◌, neg_ℤ}
use Rattle.std.proofs.Math.IntN.{pos-*ℤ-pos, pos-*ℤ-negsuc, negsuc-*ℤ-pos, negsuc-*ℤ-negsuc, zero-*ℤ, *ℤ-zero}
use Rattle.std.proofs.Math.Nat.{mul_assoc, mul-zero, zero-mul}

pos-neg : (x k : ℕ) → pos x *ℤ neg_ℤ (pos k) ≡ neg_ℤ (pos (x * k))
pos-neg x zero = *ℤ-zero (pos x) ∙ ap (λ n. neg_ℤ (pos n)) (sym (mul-zero x))
pos-neg x (suc k) = pos-*ℤ-negsuc x k

negsuc-neg : (x k : ℕ) → negsuc x *ℤ neg_ℤ (pos k) ≡ pos (suc x * k)
negsuc-neg x zero = *ℤ-zero (negsuc x) ∙ ap pos (sym (mul-zero (suc x)))
negsuc-neg x (suc k) = negsuc-*ℤ-negsuc x k

neg-pos : (k y : ℕ) → neg_ℤ (pos k) *ℤ pos y ≡ neg_ℤ (pos (k * y))
neg-pos zero y = zero-*ℤ (pos y) ∙ ap (λ n. neg_ℤ (pos n)) (sym (zero-mul y))
neg-pos (suc k) y = negsuc-*ℤ-pos k y

neg-negsuc : (k y : ℕ) → neg_ℤ (pos k) *ℤ negsuc y ≡ pos (k * suc y)
neg-negsuc zero y = zero-*ℤ (negsuc y) ∙ ap pos (sym (zero-mul (suc y)))
neg-negsuc (suc k) y = negsuc-*ℤ-negsuc k y

-- the order of two products does not matter
pub product_assoc : (a : ℤ) (n : ℕ) (c : ℤ) → a *ℤ (pos n *ℤ c) ≡ a *ℤ pos n *ℤ c
product_assoc (pos x) n (pos y) =
    ap (λ m. pos x *ℤ m) (pos-*ℤ-pos n y)
    ∙ (pos-*ℤ-pos x (n * y)
    ∙ (ap pos (sym (mul_assoc x n y)) ∙ (sym (pos-*ℤ-pos (x * n) y) ∙ ap (λ m. m *ℤ pos y) (sym (pos-*ℤ-pos x n)))))
product_assoc (pos x) n (negsuc y) =
    ap (λ m. pos x *ℤ m) (pos-*ℤ-negsuc n y)
    ∙ (pos-neg x (n * suc y)
    ∙ (ap (λ m. neg_ℤ (pos m)) (sym (mul_assoc x n (suc y)))
    ∙ (sym (pos-*ℤ-negsuc (x * n) y) ∙ ap (λ m. m *ℤ negsuc y) (sym (pos-*ℤ-pos x n)))))
product_assoc (negsuc x) n (pos y) =
    ap (λ m. negsuc x *ℤ m) (pos-*ℤ-pos n y)
    ∙ (negsuc-*ℤ-pos x (n * y)
    ∙ (ap (λ m. neg_ℤ (pos m)) (sym (mul_assoc (suc x) n y))
    ∙ (sym (neg-pos (suc x * n) y) ∙ ap (λ m. m *ℤ pos y) (sym (negsuc-*ℤ-pos x n)))))
product_assoc (negsuc x) n (negsuc y) =
    ap (λ m. negsuc x *ℤ m) (pos-*ℤ-negsuc n y)
    ∙ (negsuc-neg x (n * suc y)
    ∙ (ap pos (sym (mul_assoc (suc x) n (suc y)))
    ∙ (sym (neg-negsuc (suc x * n) y) ∙ ap (λ m. m *ℤ negsuc y) (sym (negsuc-*ℤ-pos x n)))))
