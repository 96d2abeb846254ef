-- Quotients by numbers below 0.
use Rattle.std.proofs.Common.{◌≡◌, ◌∙◌, ap, sym, refl, zero, suc, ℤ, pos, negsuc, ◌*ℤ◌, neg_ℤ, int_div}
use Rattle.std.proofs.Math.IntN.{*ℤ-negsuc}
use Rattle.std.proofs.Math.Nat.{div-zero, zero-div}

negated_both : (n d : ℤ) → int_div (neg_ℤ n) (neg_ℤ d) ≡ int_div n d
negated_both (pos zero) (pos zero) = refl
negated_both (pos (suc n)) (pos zero) =
    ap (λ m. neg_ℤ (pos m)) (div-zero (suc n)) ∙ sym (ap pos (div-zero (suc n)))
negated_both (negsuc n) (pos zero) =
    ap pos (div-zero (suc n)) ∙ sym (ap (λ m. neg_ℤ (pos m)) (div-zero (suc n)))
negated_both (pos zero) (pos (suc k)) =
    ap (λ m. neg_ℤ (pos m)) (zero-div (suc k)) ∙ sym (ap pos (zero-div (suc k)))
negated_both (pos (suc n)) (pos (suc k)) = refl
negated_both (negsuc n) (pos (suc k)) = refl
negated_both (pos zero) (negsuc k) =
    ap pos (zero-div (suc k)) ∙ sym (ap (λ m. neg_ℤ (pos m)) (zero-div (suc k)))
negated_both (pos (suc n)) (negsuc k) = refl
negated_both (negsuc n) (negsuc k) = refl

pub quotient_negated : (a d : ℤ)
    → int_div (a *ℤ neg_ℤ (pos 1000000)) (neg_ℤ d) ≡ int_div (a *ℤ pos 1000000) d
quotient_negated a d =
    ap (λ n. int_div n (neg_ℤ d)) (*ℤ-negsuc a 999999) ∙ negated_both (a *ℤ pos 1000000) d
