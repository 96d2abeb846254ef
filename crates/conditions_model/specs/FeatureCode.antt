-- How features of a size are stored.
use Rattle.std.specs.Prelude.{◌≡◌, ◌⊎◌, ◌==◌, ℕ, ℤ, if◌then◌else◌, List, refl}
use Rattle.std.proofs.Common.{inl, inr}
use Rattle.std.specs.Coded.{Coded, code_by, coded_ℕ, coded_ℤ, coded_list, coded×, coded⊎}
use Rattle.conditions_model.specs.declared.comparison.Comparison.{Comparison}
use Rattle.conditions_model.specs.declared.comparison.Comparison.TheVariants.{LessThan, AtMost, EqualTo, AtLeast, MoreThan}
use Rattle.conditions_model.specs.declared.feature_name.FeatureName.{FeatureName}
use Rattle.conditions_model.specs.declared.feature_name.FeatureName.TheVariants.{Width, Height, AspectRatio, Orientation}
use Rattle.conditions_model.specs.declared.orientation.Orientation.{Orientation as OrientationValue}
use Rattle.conditions_model.specs.declared.orientation.Orientation.TheVariants.{Portrait, Landscape}
use Rattle.conditions_model.specs.SizeFeatures.{FeatureValue, length_value, ratio_value, Bound, SizeFeature, boolean, orientation_is, bounded}
use Rattle.value_model.specs.Calculations.{Calculation}
use Rattle.value_model.specs.Lengths.{Length}
use Rattle.value_model.specs.LengthCode.{coded_length}

-- ---- words

abbrev pub name_number : FeatureName → ℕ
name_number Width = 0
name_number Height = 1
name_number AspectRatio = 2
name_number Orientation = 3

abbrev pub name_of_number : ℕ → FeatureName
name_of_number n =
    if n == 0 then Width else if n == 1 then Height else if n == 2 then AspectRatio else Orientation

pub name_of_number-name_number : (f : FeatureName) → name_of_number (name_number f) ≡ f
name_of_number-name_number Width = refl
name_of_number-name_number Height = refl
name_of_number-name_number AspectRatio = refl
name_of_number-name_number Orientation = refl

abbrev pub coded_name : Coded FeatureName
coded_name = code_by ℕ coded_ℕ name_number name_of_number name_of_number-name_number

abbrev pub comparison_number : Comparison → ℕ
comparison_number LessThan = 0
comparison_number AtMost = 1
comparison_number EqualTo = 2
comparison_number AtLeast = 3
comparison_number MoreThan = 4

abbrev pub comparison_of_number : ℕ → Comparison
comparison_of_number n =
    if n == 0 then LessThan else if n == 1 then AtMost else if n == 2 then EqualTo
    else if n == 3 then AtLeast else MoreThan

pub comparison_of_number-comparison_number : (c : Comparison) → comparison_of_number (comparison_number c) ≡ c
comparison_of_number-comparison_number LessThan = refl
comparison_of_number-comparison_number AtMost = refl
comparison_of_number-comparison_number EqualTo = refl
comparison_of_number-comparison_number AtLeast = refl
comparison_of_number-comparison_number MoreThan = refl

abbrev pub coded_comparison : Coded Comparison
coded_comparison =
    code_by ℕ coded_ℕ comparison_number comparison_of_number comparison_of_number-comparison_number

abbrev pub orientation_number : OrientationValue → ℕ
orientation_number Portrait = 0
orientation_number Landscape = 1

abbrev pub orientation_of_number : ℕ → OrientationValue
orientation_of_number n = if n == 0 then Portrait else Landscape

pub orientation_of_number-orientation_number : (o : OrientationValue)
    → orientation_of_number (orientation_number o) ≡ o
orientation_of_number-orientation_number Portrait = refl
orientation_of_number-orientation_number Landscape = refl

abbrev pub coded_orientation : Coded OrientationValue
coded_orientation =
    code_by ℕ coded_ℕ orientation_number orientation_of_number orientation_of_number-orientation_number

-- ---- values

abbrev pub value_parts : FeatureValue → Calculation Length ⊎ (ℤ × ℤ)
value_parts (length_value l) = inl l
value_parts (ratio_value across down) = inr (across, down)

abbrev pub value_of_parts : Calculation Length ⊎ (ℤ × ℤ) → FeatureValue
value_of_parts (inl l) = length_value l
value_of_parts (inr r) = ratio_value r.0 r.1

pub value_of_parts-value_parts : (v : FeatureValue) → value_of_parts (value_parts v) ≡ v
value_of_parts-value_parts (length_value l) = refl
value_of_parts-value_parts (ratio_value across down) = refl

abbrev pub coded_value : Coded FeatureValue
coded_value =
    code_by (Calculation Length ⊎ (ℤ × ℤ)) (coded⊎ coded_length (coded× coded_ℤ coded_ℤ)) value_parts
    value_of_parts value_of_parts-value_parts

abbrev pub coded_bound : Coded Bound
coded_bound =
    code_by (Comparison × FeatureValue) (coded× coded_comparison coded_value)
    (λ b. (b.comparison, b.value)) (λ p. record { comparison = p.0; value = p.1 }) (λ _. refl)

-- ---- features

abbrev pub feature_parts : SizeFeature → FeatureName ⊎ (OrientationValue ⊎ (FeatureName × List Bound))
feature_parts (boolean f) = inl f
feature_parts (orientation_is o) = inr (inl o)
feature_parts (bounded f bounds) = inr (inr (f, bounds))

abbrev pub feature_of_parts : FeatureName ⊎ (OrientationValue ⊎ (FeatureName × List Bound)) → SizeFeature
feature_of_parts (inl f) = boolean f
feature_of_parts (inr (inl o)) = orientation_is o
feature_of_parts (inr (inr b)) = bounded b.0 b.1

pub feature_of_parts-feature_parts : (f : SizeFeature) → feature_of_parts (feature_parts f) ≡ f
feature_of_parts-feature_parts (boolean f) = refl
feature_of_parts-feature_parts (orientation_is o) = refl
feature_of_parts-feature_parts (bounded f bounds) = refl

abbrev pub coded_feature : Coded SizeFeature
coded_feature =
    code_by (FeatureName ⊎ (OrientationValue ⊎ (FeatureName × List Bound)))
    (coded⊎ coded_name (coded⊎ coded_orientation (coded× coded_name (coded_list coded_bound))))
    feature_parts feature_of_parts feature_of_parts-feature_parts
