-- Whether two computed lengths are one, and what tells it.
use Rattle.std.proofs.Common.{◌≡◌, ap, ap₂, refl, subst, ◌&&◌, Bool, true, false, ℤ, ◌↔◌, IsTrue}
use Rattle.std.proofs.lemmas.Bool.Decides.{Decides-int_eq}
use Rattle.std.specs.Cmp.Derive.{both_true}
use Rattle.std.specs.Ordering.{int_eq}
use Rattle.value_model.specs.Calculations.{leaf, sum, scaled, divided, smallest, largest, Calculations, no_calculations, calculation, ComputedLeaf, in_units, in_pixels, in_percent, ComputedLength}
use Rattle.query_units.specs.inner.Sameness.{is_same_leaf, is_same, are_same}

both_parts : (s t : Bool) → (s && t) ≡ true → (s ≡ true) × (t ≡ true)
both_parts true true e = (refl, refl)
both_parts true false e = cc
both_parts false t e = cc

int_one : (m n : ℤ) → int_eq m n ≡ true → m ≡ n
int_one m n e = (Decides-int_eq m n).0 e

int_self : (n : ℤ) → int_eq n n ≡ true
int_self n = (Decides-int_eq n n).1 refl

leaf_one : (l k : ComputedLeaf) → is_same_leaf l k ≡ true → l ≡ k
leaf_one (in_units m) (in_units n) e = ap in_units (int_one m n e)
leaf_one (in_pixels m) (in_pixels n) e = ap in_pixels (int_one m n e)
leaf_one (in_percent m) (in_percent n) e = ap in_percent (int_one m n e)
leaf_one (in_units m) (in_pixels n) e = cc
leaf_one (in_units m) (in_percent n) e = cc
leaf_one (in_pixels m) (in_units n) e = cc
leaf_one (in_pixels m) (in_percent n) e = cc
leaf_one (in_percent m) (in_units n) e = cc
leaf_one (in_percent m) (in_pixels n) e = cc

mutual
  one_by_same : (a b : ComputedLength) → is_same a b ≡ true → a ≡ b
  one_by_same (leaf l) (leaf k) e = ap leaf (leaf_one l k e)
  one_by_same (sum a b) (sum c d) e =
      let both = both_parts (is_same a c) (is_same b d) e in
      ap₂ sum (one_by_same a c both.0) (one_by_same b d both.1)
  one_by_same (scaled a m) (scaled b n) e =
      let both = both_parts (int_eq m n) (is_same a b) e in
      ap₂ scaled (one_by_same a b both.1) (int_one m n both.0)
  one_by_same (divided a m) (divided b n) e =
      let both = both_parts (int_eq m n) (is_same a b) e in
      ap₂ divided (one_by_same a b both.1) (int_one m n both.0)
  one_by_same (smallest a xs) (smallest b ys) e =
      let both = both_parts (is_same a b) (are_same xs ys) e in
      ap₂ smallest (one_by_same a b both.0) (all_by_same xs ys both.1)
  one_by_same (largest a xs) (largest b ys) e =
      let both = both_parts (is_same a b) (are_same xs ys) e in
      ap₂ largest (one_by_same a b both.0) (all_by_same xs ys both.1)
  one_by_same (leaf l) (sum c d) e = cc
  one_by_same (leaf l) (scaled c n) e = cc
  one_by_same (leaf l) (divided c n) e = cc
  one_by_same (leaf l) (smallest c ys) e = cc
  one_by_same (leaf l) (largest c ys) e = cc
  one_by_same (sum a b) (leaf k) e = cc
  one_by_same (sum a b) (scaled c n) e = cc
  one_by_same (sum a b) (divided c n) e = cc
  one_by_same (sum a b) (smallest c ys) e = cc
  one_by_same (sum a b) (largest c ys) e = cc
  one_by_same (scaled a m) (leaf k) e = cc
  one_by_same (scaled a m) (sum c d) e = cc
  one_by_same (scaled a m) (divided c n) e = cc
  one_by_same (scaled a m) (smallest c ys) e = cc
  one_by_same (scaled a m) (largest c ys) e = cc
  one_by_same (divided a m) (leaf k) e = cc
  one_by_same (divided a m) (sum c d) e = cc
  one_by_same (divided a m) (scaled c n) e = cc
  one_by_same (divided a m) (smallest c ys) e = cc
  one_by_same (divided a m) (largest c ys) e = cc
  one_by_same (smallest a xs) (leaf k) e = cc
  one_by_same (smallest a xs) (sum c d) e = cc
  one_by_same (smallest a xs) (scaled c n) e = cc
  one_by_same (smallest a xs) (divided c n) e = cc
  one_by_same (smallest a xs) (largest c ys) e = cc
  one_by_same (largest a xs) (leaf k) e = cc
  one_by_same (largest a xs) (sum c d) e = cc
  one_by_same (largest a xs) (scaled c n) e = cc
  one_by_same (largest a xs) (divided c n) e = cc
  one_by_same (largest a xs) (smallest c ys) e = cc

  all_by_same : (xs ys : Calculations ComputedLeaf) → are_same xs ys ≡ true → xs ≡ ys
  all_by_same no_calculations no_calculations e = refl
  all_by_same (calculation a xs) (calculation b ys) e =
      let both = both_parts (is_same a b) (are_same xs ys) e in
      ap₂ calculation (one_by_same a b both.0) (all_by_same xs ys both.1)
  all_by_same no_calculations (calculation b ys) e = cc
  all_by_same (calculation a xs) no_calculations e = cc

leaf_self : (l : ComputedLeaf) → is_same_leaf l l ≡ true
leaf_self (in_units n) = int_self n
leaf_self (in_pixels n) = int_self n
leaf_self (in_percent n) = int_self n

mutual
  same_self : (a : ComputedLength) → is_same a a ≡ true
  same_self (leaf l) = leaf_self l
  same_self (sum a b) = both_true (same_self a) (same_self b)
  same_self (scaled a n) = both_true (int_self n) (same_self a)
  same_self (divided a n) = both_true (int_self n) (same_self a)
  same_self (smallest a xs) = both_true (same_self a) (all_self xs)
  same_self (largest a xs) = both_true (same_self a) (all_self xs)

  all_self : (xs : Calculations ComputedLeaf) → are_same xs xs ≡ true
  all_self no_calculations = refl
  all_self (calculation a xs) = both_true (same_self a) (all_self xs)

pub same_decides : (a b : ComputedLength) → IsTrue (is_same a b) ↔ (a ≡ b)
same_decides a b = (one_by_same a b, λ e. subst (λ x. is_same a x ≡ true) e (same_self a))
