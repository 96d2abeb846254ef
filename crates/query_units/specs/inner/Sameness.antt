-- Whether two computed lengths are one.
use Rattle.std.specs.Prelude.{◌&&◌, Bool, false, true}
use Rattle.std.specs.Ordering.{int_eq}
use Rattle.value_model.specs.Calculations.{leaf, sum, scaled, divided, smallest, largest, Calculations, no_calculations, calculation, ComputedLeaf, in_units, in_pixels, in_percent, ComputedLength}

abbrev pub is_same_leaf : ComputedLeaf → ComputedLeaf → Bool
is_same_leaf (in_units m) (in_units n) = int_eq m n
is_same_leaf (in_pixels m) (in_pixels n) = int_eq m n
is_same_leaf (in_percent m) (in_percent n) = int_eq m n
is_same_leaf l k = false

abbrev mutual
  pub is_same : ComputedLength → ComputedLength → Bool
  is_same (leaf l) (leaf k) = is_same_leaf l k
  is_same (sum a b) (sum c d) = is_same a c && is_same b d
  is_same (scaled a m) (scaled b n) = int_eq m n && is_same a b
  is_same (divided a m) (divided b n) = int_eq m n && is_same a b
  is_same (smallest a others) (smallest b more) = is_same a b && are_same others more
  is_same (largest a others) (largest b more) = is_same a b && are_same others more
  is_same a b = false

  pub are_same : Calculations ComputedLeaf → Calculations ComputedLeaf → Bool
  are_same no_calculations no_calculations = true
  are_same (calculation a others) (calculation b more) = is_same a b && are_same others more
  are_same others more = false
