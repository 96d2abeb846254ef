-- Positions that `An+B` means.
use Rattle.std.proofs.Common.{◌≡◌, ◌∙◌, ap, sym, subst, refl, inl, inr, arith, ℕ, zero, suc, ◌*◌, ◌/◌, ◌%◌, ◌==◌, ℤ, pos, negsuc, neg_ℤ, ◌+ℤ◌, ◌-ℤ◌, ◌*ℤ◌, nat_abs, int_le, int_div, int_rem, eqb-true, true, false}
use Rattle.std.proofs.lemmas.Bool.{cases_Bool, false≢true}
use Rattle.std.proofs.lemmas.Int.{quot-rem}
use Rattle.std.proofs.lemmas.Nat.{div-mul-add, mod-mul-add}
use Rattle.std.proofs.Math.Nat.{mul_comm}
use Rattle.std.proofs.Math.IntN.{*ℤ_comm, *ℤ-zero, zero-*ℤ, negsuc-*ℤ-pos, -ℤ-+ℤ_cancel, +ℤ-neg_ℤ_cancel, +ℤ_idr}
use Rattle.selectors_model.specs.declared.an_plus_b.AnPlusB.{AnPlusB}
use Rattle.selectors_model.specs.AnPlusBs.{is_multiple, is_position}
use Rattle.selectors_laws.specs.Positions.{IsOneOf}
use Rattle.selectors_laws.proofs.Matched.{and-left, and-right}
use Rattle.selectors_laws.proofs.Sums.{if-true, if-false}

abs-zero : (z : ℤ) → nat_abs z ≡ 0 → z ≡ pos 0
abs-zero (pos n) e = ap pos e
abs-zero (negsuc n) e = absurd (omega (arith, e))

not-negative : (z : ℤ) → int_le (pos 0) z ≡ true → (n : ℕ) × (z ≡ pos n)
not-negative (pos n) e = (n, refl)
not-negative (negsuc n) e = absurd (false≢true e)

multiple : (a d : ℤ) → is_multiple a d ≡ true → (n : ℕ) × (d ≡ a *ℤ pos n)
multiple a d e =
    let rem : int_rem d a ≡ pos 0 = abs-zero (int_rem d a)
    (eqb-true (nat_abs (int_rem d a)) 0
    (and-left (nat_abs (int_rem d a) == 0) (int_le (pos 0) (int_div d a)) e)) in
    let quot = not-negative (int_div d a)
    (and-right (nat_abs (int_rem d a) == 0) (int_le (pos 0) (int_div d a)) e) in (
      quot.0,
      sym (quot-rem d a)
          ∙ ap (λ r. int_div d a *ℤ a +ℤ r) rem
          ∙ +ℤ_idr (int_div d a *ℤ a)
          ∙ ap (λ q. q *ℤ a) quot.1
          ∙ *ℤ_comm (pos quot.0) a,
    )

moved : (p b d : ℤ) → p -ℤ b ≡ d → p ≡ d +ℤ b
moved p b d e = sym (-ℤ-+ℤ_cancel p b) ∙ ap (λ x. x +ℤ b) e

pub position-of : (at : AnPlusB) (p : ℕ) → is_position at p ≡ true → IsOneOf at p
position-of at p e = elim (cases_Bool (nat_abs at.step == 0)) [
  | inl z ↦
      let f : (nat_abs (pos p -ℤ at.offset) == 0) ≡ true =
      sym (if-true (nat_abs at.step == 0) (nat_abs (pos p -ℤ at.offset) == 0)
      (is_multiple at.step (pos p -ℤ at.offset)) z) ∙ e in
      let d : pos p -ℤ at.offset ≡ pos 0 =
      abs-zero (pos p -ℤ at.offset) (eqb-true (nat_abs (pos p -ℤ at.offset)) 0 f) in
      (0, moved (pos p) at.offset (at.step *ℤ pos 0) (d ∙ sym (*ℤ-zero at.step)))
  | inr z ↦
      let f : is_multiple at.step (pos p -ℤ at.offset) ≡ true =
      sym (if-false (nat_abs at.step == 0) (nat_abs (pos p -ℤ at.offset) == 0)
      (is_multiple at.step (pos p -ℤ at.offset)) z) ∙ e in
      let m = multiple at.step (pos p -ℤ at.offset) f in
      (m.0, moved (pos p) at.offset (at.step *ℤ pos m.0) m.1)
]

-- ---- the other way

-- a product by its factor
div-exact : (k n a : ℕ) → k ≡ n * suc a → k / suc a ≡ n
div-exact k n a e = ap (λ x. x / suc a) (omega (arith, e)) ∙ div-mul-add n (suc a) 0 (omega arith)

mod-exact : (k n a : ℕ) → k ≡ n * suc a → k % suc a ≡ 0
mod-exact k n a e = ap (λ x. x % suc a) (omega (arith, e)) ∙ mod-mul-add n (suc a) 0 (omega arith)

abbrev IsQuotient : ℤ → ℤ → ℕ → Type 0
IsQuotient d a n = (int_rem d a ≡ pos 0) × (int_div d a ≡ pos n)

by-negative : (k n a : ℕ) → k ≡ n * suc a → IsQuotient (neg_ℤ (pos k)) (negsuc a) n
by-negative zero n a e =
    let nothing : 0 ≡ 0 * suc a = omega arith in
    let none : 0 ≡ n = sym (div-exact 0 0 a nothing) ∙ div-exact 0 n a e in (
      ap pos (mod-exact 0 n a e),
      ap (λ m. neg_ℤ (pos m)) (div-exact 0 0 a nothing) ∙ ap pos none,
    )
by-negative (suc k) n a e =
    (ap (λ m. neg_ℤ (pos m)) (mod-exact (suc k) n a e), ap pos (div-exact (suc k) n a e))

quotient : (a : ℤ) (n : ℕ) → (nat_abs a == 0) ≡ false → IsQuotient (a *ℤ pos n) a n
quotient (pos zero) n f = absurd (false≢true (sym f))
quotient (pos (suc a)) n f =
    let e : suc a * n ≡ n * suc a = mul_comm (suc a) n in
    (ap pos (mod-exact (suc a * n) n a e), ap pos (div-exact (suc a * n) n a e))
quotient (negsuc a) n f =
    subst (λ (d : ℤ). IsQuotient d (negsuc a) n) (sym (negsuc-*ℤ-pos a n))
    (by-negative (suc a * n) n a (mul_comm (suc a) n))

not-below : (n : ℕ) → int_le (pos 0) (pos n) ≡ true
not-below n = grind arith

is-multiple : (a d : ℤ) (n : ℕ) → IsQuotient d a n → is_multiple a d ≡ true
is-multiple a d n q = rw (q.0, q.1) (not-below n)

by-nothing : (a : ℤ) (n : ℕ) → (nat_abs a == 0) ≡ true → (nat_abs (a *ℤ pos n) == 0) ≡ true
by-nothing (pos zero) n t = ap (λ z. nat_abs z == 0) (zero-*ℤ (pos n))
by-nothing (pos (suc a)) n t = absurd (omega (arith, eqb-true (suc a) 0 t))
by-nothing (negsuc a) n t = absurd (omega (arith, eqb-true (suc a) 0 t))

pub of-position : (at : AnPlusB) (p : ℕ) → IsOneOf at p → is_position at p ≡ true
of-position at p m =
    let d : pos p -ℤ at.offset ≡ at.step *ℤ pos m.0 =
    ap (λ x. x -ℤ at.offset) m.1 ∙ +ℤ-neg_ℤ_cancel (at.step *ℤ pos m.0) at.offset in
    elim (cases_Bool (nat_abs at.step == 0)) [
      | inl z ↦
          if-true (nat_abs at.step == 0) (nat_abs (pos p -ℤ at.offset) == 0)
          (is_multiple at.step (pos p -ℤ at.offset)) z
          ∙ ap (λ x. nat_abs x == 0) d
          ∙ by-nothing at.step m.0 z
      | inr z ↦
          if-false (nat_abs at.step == 0) (nat_abs (pos p -ℤ at.offset) == 0)
          (is_multiple at.step (pos p -ℤ at.offset)) z
          ∙ ap (is_multiple at.step) d
          ∙ is-multiple at.step (at.step *ℤ pos m.0) m.0 (quotient at.step m.0 z)
    ]
