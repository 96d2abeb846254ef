-- Calculations over lengths, and their values (CSS Values 4, section 10).
use Rattle.std.specs.Prelude.{ℤ, pos, ◌+ℤ◌, ◌*ℤ◌, int_div, ◌||◌, if◌then◌else◌, List, [], ◌∷◌, ◌++◌, map, codes, Bool, true, false}
use Rattle.std.specs.Fmt.{signed_decimal}
use Rattle.std.specs.Int.{int_min, int_max}
use Rattle.std.specs.List.{fold, list_any, join_with_byte}
use Rattle.units64.specs.Conversions.{millionths_of}
use Rattle.units64.specs.Limits.{clamped_millionths}
use Rattle.css_model.specs.Classes.{Text, comma}
use Rattle.value_model.specs.declared.length_unit.Bases.{Bases}
use Rattle.value_model.specs.declared.unit_set.UnitSet.{UnitSet}
use Rattle.value_model.specs.Lengths.{Length, dimension, percentage, dimension_value, percentage_value, in_clamped_units, mentioned, unit_set}

-- a calculation over leaves of this type; numbers are in millionths
mutual
  pub data Calculation (L : Type 0) : Type 0 where
    leaf : L → Calculation L
    sum : Calculation L → Calculation L → Calculation L
    scaled : Calculation L → (factor : ℤ) → Calculation L
    divided : Calculation L → (divisor : ℤ) → Calculation L
    smallest : (first : Calculation L) → (others : Calculations L) → Calculation L
    largest : (first : Calculation L) → (others : Calculations L) → Calculation L

  pub data Calculations (L : Type 0) : Type 0 where
    no_calculations : Calculations L
    calculation : Calculation L → Calculations L → Calculations L

-- what stands at the leaves, from left to right
abbrev mutual
  pub leaves : {L : Type 0} → Calculation L → List L
  leaves (leaf l) = l ∷ []
  leaves (sum a b) = leaves a ++ leaves b
  leaves (scaled a factor) = leaves a
  leaves (divided a divisor) = leaves a
  leaves (smallest a others) = leaves a ++ all_leaves others
  leaves (largest a others) = leaves a ++ all_leaves others

  pub all_leaves : {L : Type 0} → Calculations L → List L
  all_leaves no_calculations = []
  all_leaves (calculation a others) = leaves a ++ all_leaves others

-- the same calculation over other leaves
abbrev mutual
  pub with_leaves : {K L : Type 0} → (K → L) → Calculation K → Calculation L
  with_leaves f (leaf l) = leaf (f l)
  with_leaves f (sum a b) = sum (with_leaves f a) (with_leaves f b)
  with_leaves f (scaled a factor) = scaled (with_leaves f a) factor
  with_leaves f (divided a divisor) = divided (with_leaves f a) divisor
  with_leaves f (smallest a others) = smallest (with_leaves f a) (all_with_leaves f others)
  with_leaves f (largest a others) = largest (with_leaves f a) (all_with_leaves f others)

  pub all_with_leaves : {K L : Type 0} → (K → L) → Calculations K → Calculations L
  all_with_leaves f no_calculations = no_calculations
  all_with_leaves f (calculation a others) = calculation (with_leaves f a) (all_with_leaves f others)

-- ---- values

-- of millionths: a sum is clamped, a product or quotient truncated towards zero and then clamped
abbrev pub number_sum : ℤ → ℤ → ℤ
number_sum m n = clamped_millionths (m +ℤ n)

abbrev pub number_product : ℤ → ℤ → ℤ
number_product m n = clamped_millionths (int_div (m *ℤ n) (pos 1000000))

abbrev pub number_quotient : ℤ → ℤ → ℤ
number_quotient m n = clamped_millionths (int_div (m *ℤ pos 1000000) n)

-- the value in millionths where `of_leaf` gives that of each leaf: innermost parts first
abbrev mutual
  pub value_by : {L : Type 0} → (L → ℤ) → Calculation L → ℤ
  value_by of_leaf (leaf l) = of_leaf l
  value_by of_leaf (sum a b) = number_sum (value_by of_leaf a) (value_by of_leaf b)
  value_by of_leaf (scaled a factor) = number_product (value_by of_leaf a) factor
  value_by of_leaf (divided a divisor) = number_quotient (value_by of_leaf a) divisor
  value_by of_leaf (smallest a others) = fold int_min (value_by of_leaf a) (values_by of_leaf others)
  value_by of_leaf (largest a others) = fold int_max (value_by of_leaf a) (values_by of_leaf others)

  pub values_by : {L : Type 0} → (L → ℤ) → Calculations L → List ℤ
  values_by of_leaf no_calculations = []
  values_by of_leaf (calculation a others) = value_by of_leaf a ∷ values_by of_leaf others

-- the value of a length, or of a percentage of a base in units, in millionths of a pixel
abbrev pub literal_value : Bases → ℤ → Length → ℤ
literal_value b base (dimension millionths u) = dimension_value b millionths u
literal_value b base (percentage millionths) = percentage_value millionths base

-- the value where percentages refer to this base in units, in millionths of a pixel
abbrev pub calculation_value : Bases → ℤ → Calculation Length → ℤ
calculation_value b base c = value_by (literal_value b base) c

-- ---- computed values (section 10.11)

-- units of 1/64 pixel, or a number of millionths of a pixel or of a percent
pub data ComputedLeaf : Type 0 where
  in_units : (units : ℤ) → ComputedLeaf
  in_pixels : (millionths : ℤ) → ComputedLeaf
  in_percent : (millionths : ℤ) → ComputedLeaf

-- a length as it is computed: units alone, or a calculation with percentages
abbrev pub ComputedLength : Type 0
ComputedLength = Calculation ComputedLeaf

abbrev pub is_percentage : Length → Bool
is_percentage (percentage millionths) = true
is_percentage (dimension millionths u) = false

abbrev pub has_percentage : Calculation Length → Bool
has_percentage c = list_any is_percentage (leaves c)

abbrev pub computed_leaf : Bases → Length → ComputedLeaf
computed_leaf b (dimension millionths u) = in_pixels (dimension_value b millionths u)
computed_leaf b (percentage millionths) = in_percent millionths

-- in units where there is no percentage; else each length is its value, and all else stays
abbrev pub computed_length : Bases → Calculation Length → ComputedLength
computed_length b c =
    if has_percentage c then with_leaves (computed_leaf b) c
    else leaf (in_units (in_clamped_units (calculation_value b (pos 0) c)))

-- in units where percentages refer to this base, and not below 0: font sizes, line heights and widths of
-- borders (section 10.12)
abbrev pub units_from_zero : Bases → ℤ → Calculation Length → ℤ
units_from_zero b base c = int_max (pos 0) (in_clamped_units (calculation_value b base c))

-- ---- used values

-- in millionths of a pixel, where percentages refer to this base
abbrev pub leaf_value : ℤ → ComputedLeaf → ℤ
leaf_value base (in_units units) = clamped_millionths (millionths_of units)
leaf_value base (in_pixels millionths) = millionths
leaf_value base (in_percent millionths) = percentage_value millionths base

-- what a computed length is where percentages refer to this base, in millionths of a pixel
abbrev pub used_length : ComputedLength → ℤ → ℤ
used_length l base = value_by (leaf_value base) l

-- ---- the text of a computed length

-- a name, and in round brackets the parts with commas between them
abbrev pub call_text : Text → List Text → Text
call_text name parts = name ++ (codes "(" ++ (join_with_byte comma parts ++ codes ")"))

abbrev pub leaf_text : ComputedLeaf → Text
leaf_text (in_units units) = signed_decimal units
leaf_text (in_pixels millionths) = codes "px:" ++ signed_decimal millionths
leaf_text (in_percent millionths) = codes "pct:" ++ signed_decimal millionths

abbrev mutual
  pub length_text : ComputedLength → Text
  length_text (leaf l) = leaf_text l
  length_text (sum a b) = call_text (codes "add") (length_text a ∷ length_text b ∷ [])
  length_text (scaled a factor) = call_text (codes "scale") (length_text a ∷ signed_decimal factor ∷ [])
  length_text (divided a divisor) = call_text (codes "over") (length_text a ∷ signed_decimal divisor ∷ [])
  length_text (smallest a others) = call_text (codes "min") (length_text a ∷ length_texts others)
  length_text (largest a others) = call_text (codes "max") (length_text a ∷ length_texts others)

  pub length_texts : Calculations ComputedLeaf → List Text
  length_texts no_calculations = []
  length_texts (calculation a others) = length_text a ∷ length_texts others

-- ---- what a calculation refers to

-- the bases of either
abbrev pub union_of_bases : UnitSet → UnitSet → UnitSet
union_of_bases s t =
    unit_set (s.em || t.em) (s.rem || t.rem) (s.vw || t.vw) (s.vh || t.vh) (s.cqw || t.cqw) (s.cqh || t.cqh)

abbrev pub no_bases : UnitSet
no_bases = unit_set false false false false false false

-- the bases on which one of the lengths depends
abbrev pub mentioned_in : Calculation Length → UnitSet
mentioned_in c = fold union_of_bases no_bases (map mentioned (leaves c))
