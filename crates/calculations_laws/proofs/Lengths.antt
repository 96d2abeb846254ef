-- Lengths compute to units that fit, or to calculations with a percentage.
use Rattle.std.proofs.Common.{◌≡◌, ◌∙◌, refl, ℕ, ap, ap₂, ◌||◌, not, List, [], ◌∷◌, ◌++◌, map, Bool, true, false, inl, inr, arith}
use Rattle.std.specs.Prelude.{ℤ, pos, neg_ℤ, ◌≤ℤ◌, int_le}
use Rattle.std.specs.Int.{int_min, int_max}
use Rattle.std.specs.List.{fold, list_any, list_all}
use Rattle.std.proofs.lemmas.Bool.{cases_Bool}
use Rattle.std.proofs.lemmas.Int.{ints, clamps}
use Rattle.units64.specs.Conversions.{units_of}
use Rattle.units64.specs.declared.constants.TheConstants.{MAX_UNITS}
use Rattle.value_model.specs.declared.length_unit.Bases.{Bases}
use Rattle.value_model.specs.Calculations.{Calculation, leaf, sum, scaled, divided, smallest, largest, Calculations, no_calculations, calculation, leaves, all_leaves, with_leaves, all_with_leaves, number_sum, number_product, number_quotient, value_by, values_by, literal_value, calculation_value, computed_leaf, computed_length, leaf_value, used_length, units_from_zero, is_percentage, has_percentage}
use Rattle.value_model.specs.Lengths.{Length, dimension, percentage, in_clamped_units}
use Rattle.calculations_laws.specs.ComputedLengths.{is_units_from, is_length, is_percent, is_of_units, is_mixed, are_units, UsesWhatIsDeclared}

-- ---- numbers

-- a number of units between these passes the test
fits-from : (least n : ℤ) → least ≤ℤ n → n ≤ℤ MAX_UNITS → is_units_from least n ≡ true
fits-from least n h k = rw (passes least n h, passes n MAX_UNITS k) refl
  where
    passes : (x y : ℤ) → x ≤ℤ y → int_le x y ≡ true
    passes x y h = grind (arith, ints)

clamped-least : (low high n : ℤ) → low ≤ℤ int_max low (int_min high n)
clamped-least low high n = omega (arith, ints, clamps)

clamped-greatest : (low high n : ℤ) → low ≤ℤ high → int_max low (int_min high n) ≤ℤ high
clamped-greatest low high n h = omega (arith, ints, clamps)

in-units-least : (n : ℤ) → neg_ℤ MAX_UNITS ≤ℤ in_clamped_units n
in-units-least n = clamped-least (neg_ℤ MAX_UNITS) MAX_UNITS (units_of n)

in-units-greatest : (n : ℤ) → in_clamped_units n ≤ℤ MAX_UNITS
in-units-greatest n = clamped-greatest (neg_ℤ MAX_UNITS) MAX_UNITS (units_of n) (record { le = tt })

-- ---- leaves

map-joined : {K L : Type 0} (f : K → L) (xs ys : List K) → map f xs ++ map f ys ≡ map f (xs ++ ys)
map-joined f [] ys = refl
map-joined f (x ∷ xs) ys = ap (λ zs. f x ∷ zs) (map-joined f xs ys)

-- two lists of leaves, each mapped
both : {K L : Type 0} (f : K → L) (xs ys : List K) (us vs : List L) → us ≡ map f xs → vs ≡ map f ys
    → us ++ vs ≡ map f (xs ++ ys)
both f xs ys us vs h k = rw (h, k) (map-joined f xs ys)

-- the leaves of a calculation over other leaves
mutual
  leaves-of : {K L : Type 0} (f : K → L) (c : Calculation K) → leaves (with_leaves f c) ≡ map f (leaves c)
  leaves-of f (leaf l) = refl
  leaves-of f (sum a b) = both f (leaves a) (leaves b) (leaves (with_leaves f a)) (leaves (with_leaves f b))
      (leaves-of f a) (leaves-of f b)
  leaves-of f (scaled a factor) = leaves-of f a
  leaves-of f (divided a divisor) = leaves-of f a
  leaves-of f (smallest a others) =
      both f (leaves a) (all_leaves others) (leaves (with_leaves f a)) (all_leaves (all_with_leaves f others))
      (leaves-of f a) (all-leaves-of f others)
  leaves-of f (largest a others) =
      both f (leaves a) (all_leaves others) (leaves (with_leaves f a)) (all_leaves (all_with_leaves f others))
      (leaves-of f a) (all-leaves-of f others)

  all-leaves-of : {K L : Type 0} (f : K → L) (cs : Calculations K)
      → all_leaves (all_with_leaves f cs) ≡ map f (all_leaves cs)
  all-leaves-of f no_calculations = refl
  all-leaves-of f (calculation a others) =
      both f (leaves a) (all_leaves others) (leaves (with_leaves f a)) (all_leaves (all_with_leaves f others))
      (leaves-of f a) (all-leaves-of f others)

-- no leaf is in units
none-of-units : (b : Bases) (ls : List Length)
    → list_all (λ l. not (is_of_units l)) (map (computed_leaf b) ls) ≡ true
none-of-units b [] = refl
none-of-units b (dimension n u ∷ ls) = none-of-units b ls
none-of-units b (percentage n ∷ ls) = none-of-units b ls

-- percentages stay
percent-stays : (b : Bases) (ls : List Length)
    → list_any is_percent (map (computed_leaf b) ls) ≡ list_any is_percentage ls
percent-stays b [] = refl
percent-stays b (dimension n u ∷ ls) = percent-stays b ls
percent-stays b (percentage n ∷ ls) = refl

mixed : (b : Bases) (c : Calculation Length) → has_percentage c ≡ true
    → is_mixed (with_leaves (computed_leaf b) c) ≡ true
mixed b c h = rw (leaves-of (computed_leaf b) c, none-of-units b (leaves c), percent-stays b (leaves c), h) refl

or-true : (a b : Bool) → b ≡ true → (a || b) ≡ true
or-true true b h = refl
or-true false b h = h

-- ---- lengths

pub any-length : (b : Bases) (c : Calculation Length) → is_length (computed_length b c) ≡ true
any-length b c = elim (cases_Bool (has_percentage c)) [
  | inl with ↦ rw with
      (or-true (are_units (with_leaves (computed_leaf b) c)) (is_mixed (with_leaves (computed_leaf b) c))
      (mixed b c with))
  | inr without ↦ rw (
    without,
    fits-from (neg_ℤ MAX_UNITS) (in_clamped_units (calculation_value b (pos 0) c))
        (in-units-least (calculation_value b (pos 0) c))
        (in-units-greatest (calculation_value b (pos 0) c)),
  ) refl
]

natural : (n : ℕ) → pos 0 ≤ℤ pos n
natural n = omega (arith, ints)

-- what is cut at 0
pub from-zero : (b : Bases) (base : ℤ) (c : Calculation Length)
    → is_units_from (pos 0) (units_from_zero b base c) ≡ true
from-zero b base c =
    fits-from (pos 0) (int_max (pos 0) (in_clamped_units (calculation_value b base c)))
    (cut-least (in_clamped_units (calculation_value b base c)))
    (cut-greatest (in_clamped_units (calculation_value b base c)) MAX_UNITS
    (in-units-greatest (calculation_value b base c)) (natural _))
  where
    cut-least : (n : ℤ) → pos 0 ≤ℤ int_max (pos 0) n
    cut-least n = omega (arith, ints, clamps)

    cut-greatest : (n most : ℤ) → n ≤ℤ most → pos 0 ≤ℤ most → int_max (pos 0) n ≤ℤ most
    cut-greatest n most h k = omega (arith, ints, clamps)

-- ---- used values

-- the value over other leaves
mutual
  pub value-of : {K L : Type 0} (f : L → ℤ) (g : K → L) (c : Calculation K)
      → value_by f (with_leaves g c) ≡ value_by (λ l. f (g l)) c
  value-of f g (leaf l) = refl
  value-of f g (sum a b) = ap₂ number_sum (value-of f g a) (value-of f g b)
  value-of f g (scaled a factor) = ap (λ v. number_product v factor) (value-of f g a)
  value-of f g (divided a divisor) = ap (λ v. number_quotient v divisor) (value-of f g a)
  value-of f g (smallest a others) = ap₂ (fold int_min) (value-of f g a) (values-of f g others)
  value-of f g (largest a others) = ap₂ (fold int_max) (value-of f g a) (values-of f g others)

  values-of : {K L : Type 0} (f : L → ℤ) (g : K → L) (cs : Calculations K)
      → values_by f (all_with_leaves g cs) ≡ values_by (λ l. f (g l)) cs
  values-of f g no_calculations = refl
  values-of f g (calculation a others) = ap₂ (λ v vs. v ∷ vs) (value-of f g a) (values-of f g others)

-- the value by the same values of leaves
mutual
  same-value : {L : Type 0} (f g : L → ℤ) → ((l : L) → f l ≡ g l) → (c : Calculation L)
      → value_by f c ≡ value_by g c
  same-value f g h (leaf l) = h l
  same-value f g h (sum a b) = ap₂ number_sum (same-value f g h a) (same-value f g h b)
  same-value f g h (scaled a factor) = ap (λ v. number_product v factor) (same-value f g h a)
  same-value f g h (divided a divisor) = ap (λ v. number_quotient v divisor) (same-value f g h a)
  same-value f g h (smallest a others) = ap₂ (fold int_min) (same-value f g h a) (same-values f g h others)
  same-value f g h (largest a others) = ap₂ (fold int_max) (same-value f g h a) (same-values f g h others)

  same-values : {L : Type 0} (f g : L → ℤ) → ((l : L) → f l ≡ g l) → (cs : Calculations L)
      → values_by f cs ≡ values_by g cs
  same-values f g h no_calculations = refl
  same-values f g h (calculation a others) = ap₂ (λ v vs. v ∷ vs) (same-value f g h a) (same-values f g h others)

pub used-as-declared : UsesWhatIsDeclared
used-as-declared b base c h =
    ap (λ l. used_length l base) (computed-mixed h)
    ∙ (value-of (leaf_value base) (computed_leaf b) c
    ∙ same-value (λ l. leaf_value base (computed_leaf b l)) (literal_value b base) at-leaf c)
  where
    computed-mixed : has_percentage c ≡ true → computed_length b c ≡ with_leaves (computed_leaf b) c
    computed-mixed h = rw h refl

    at-leaf : (l : Length) → leaf_value base (computed_leaf b l) ≡ literal_value b base l
    at-leaf (dimension n u) = refl
    at-leaf (percentage n) = refl
