-- Which names, features and values of the definitions these are.
use Rattle.std.specs.Prelude.{[], ◌∷◌}
use Rattle.conditions_model.specs.FeatureValues as judged
use Rattle.conditions_model.specs.MediaQueries.{media_names}
use Rattle.conditions_model.specs.SizeFeatures as model
use Rattle.query_units.specs.Views.{length_view}
use Rattle.size_features.specs.declared.bound.Bound.{Bound}
use Rattle.size_features.specs.declared.bound.FeatureValue.{FeatureValue}
use Rattle.size_features.specs.declared.bound.FeatureValue.TheVariants.{Length, Ratio as ARatio}
use Rattle.size_features.specs.declared.feature.Form.{Form}
use Rattle.size_features.specs.declared.feature.Form.TheVariants.{Boolean, Orientation, OneBound, TwoBounds}
use Rattle.size_features.specs.declared.measured.Measured.{Measured}
use Rattle.size_features.specs.declared.names.FeatureNames.{FeatureNames}
use Rattle.size_features.specs.declared.names.FeatureNames.TheVariants.{Media}

-- the names of this kind
abbrev pub names_of : FeatureNames → model.Names
names_of Media = media_names

abbrev pub value_view : FeatureValue → model.FeatureValue
value_view (Length l) = model.length_value (length_view l)
value_view (ARatio r) = model.ratio_value r.across r.down

abbrev pub bound_view : Bound → model.Bound
bound_view b = record { comparison = b.comparison; value = value_view b.value }

abbrev pub form_view : Form → model.SizeFeature
form_view (Boolean f) = model.boolean f
form_view (Orientation o) = model.orientation_is o
form_view (OneBound f b) = model.bounded f (bound_view b ∷ [])
form_view (TwoBounds f a b) = model.bounded f (bound_view a ∷ bound_view b ∷ [])

abbrev pub measured_view : Measured → judged.Measured
measured_view m = record { width = m.width; height = m.height; bases = m.bases }
