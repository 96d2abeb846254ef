-- The value of a feature, from a width and a height (Media Queries 4, sections 2.4 and 4.1 to 4.4).
use Rattle.std.specs.Prelude.{ℤ, pos, ◌*ℤ◌, int_lt, not, Bool, true}
use Rattle.std.specs.List.{list_all}
use Rattle.std.specs.declared.cmp.Ordering.{Ordering}
use Rattle.std.specs.Ordering.{int_cmp, int_eq, is_lt, is_le, is_eq, is_ge, is_gt}
use Rattle.units64.specs.Conversions.{millionths_of}
use Rattle.conditions_model.specs.declared.comparison.Comparison.{Comparison}
use Rattle.conditions_model.specs.declared.comparison.Comparison.TheVariants.{LessThan, AtMost, EqualTo, AtLeast, MoreThan}
use Rattle.conditions_model.specs.declared.feature_name.FeatureName.{FeatureName}
use Rattle.conditions_model.specs.declared.feature_name.FeatureName.TheVariants.{Height, Orientation}
use Rattle.value_model.specs.declared.length_unit.Bases.{Bases}
use Rattle.conditions_model.specs.declared.orientation.Orientation.{Orientation as OrientationValue}
use Rattle.conditions_model.specs.declared.orientation.Orientation.TheVariants.{Portrait, Landscape}
use Rattle.conditions_model.specs.declared.tri.Tri.{Tri}
use Rattle.conditions_model.specs.TriTables.{tri}
use Rattle.value_model.specs.Calculations.{calculation_value}
use Rattle.conditions_model.specs.SizeFeatures.{FeatureValue, length_value as a_length, ratio_value, Bound, SizeFeature, boolean, orientation_is, bounded}

-- what features are judged on: a width and a height, in units, and what lengths refer to
pub record Measured : Type 0 where
  pub width : ℤ
  pub height : ℤ
  pub bases : Bases

-- a comparison holds of things in this order
abbrev pub holds : Comparison → Ordering → Bool
holds LessThan order = is_lt order
holds AtMost order = is_le order
holds EqualTo order = is_eq order
holds AtLeast order = is_ge order
holds MoreThan order = is_gt order

-- the side that a feature is judged on
abbrev pub measured_side : Measured → FeatureName → ℤ
measured_side m Height = m.height
measured_side m other = m.width

-- how a feature stands to a value, without loss: a side to a length; width / height to a ratio, by
-- products
abbrev pub order_of : Measured → FeatureName → FeatureValue → Ordering
order_of m f (a_length l) = int_cmp (millionths_of (measured_side m f)) (calculation_value m.bases (pos 0) l)
order_of m f (ratio_value across down) = int_cmp (m.width *ℤ down) (across *ℤ m.height)

abbrev pub meets : Measured → FeatureName → Bound → Bool
meets m f b = holds b.comparison (order_of m f b.value)

-- `portrait` where the height is at least the width, else `landscape` (4.4)
abbrev pub is_orientation : Measured → OrientationValue → Bool
is_orientation m Portrait = not (int_lt m.height m.width)
is_orientation m Landscape = int_lt m.height m.width

-- the boolean form: what it would be compared with is not 0 (2.4.2)
abbrev pub is_not_zero : Measured → FeatureName → Bool
is_not_zero m Orientation = true
is_not_zero m f = not (int_eq (measured_side m f) (pos 0))

abbrev pub feature_holds : Measured → SizeFeature → Bool
feature_holds m (boolean f) = is_not_zero m f
feature_holds m (orientation_is o) = is_orientation m o
feature_holds m (bounded f bounds) = list_all (meets m f) bounds

-- the value of a feature; it is never Unknown
abbrev pub feature_value : Measured → SizeFeature → Tri
feature_value m f = tri (feature_holds m f)
