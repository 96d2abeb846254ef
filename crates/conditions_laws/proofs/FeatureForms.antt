-- Features in their forms.
use Rattle.std.proofs.Common.{◌≡◌, refl, Bool, true, false, ◌&&◌, [], ◌∷◌, ◌++◌, codes, Some, None}
use Rattle.css_model.specs.Classes.{Text}
use Rattle.css_model.specs.Components.{Components}
use Rattle.conditions_model.specs.declared.comparison.Comparison.{Comparison}
use Rattle.conditions_model.specs.declared.comparison.Comparison.TheVariants.{AtMost, AtLeast}
use Rattle.conditions_model.specs.declared.feature_name.FeatureName.{FeatureName}
use Rattle.conditions_model.specs.TriTables.{tri, tri_and}
use Rattle.conditions_model.specs.SizeFeatures.{Bound, Names, SizeFeature, bounded, bounded_by, is_one_direction, last_side, mirrored, named, one_bound, plain_from, plain_name, range_feature, side, side_name}
use Rattle.conditions_model.specs.FeatureValues.{Measured, feature_value, meets}
use Rattle.conditions_laws.proofs.Tables.{known-tri}
use Rattle.conditions_laws.specs.Known.{is_known}

pub known-feature : (m : Measured) (f : SizeFeature) → is_known (feature_value m f) ≡ true
known-feature m f = known-tri _

and-both : (a b : Bool) → tri (a && (b && true)) ≡ tri_and (tri (a && true)) (tri (b && true))
and-both true true = refl
and-both true false = refl
and-both false true = refl
and-both false false = refl

pub both-sides : (m : Measured) (f : FeatureName) (low high : Bound)
    → feature_value m (bounded f (low ∷ high ∷ []))
    ≡ tri_and (feature_value m (bounded f (low ∷ []))) (feature_value m (bounded f (high ∷ [])))
both-sides m f low high = and-both (meets m f low) (meets m f high)

pub two-sided : (names : Names) (f : FeatureName) (a b c : Components) (s t : Comparison) (low high : Bound)
    → is_one_direction s t ≡ true → side_name names b ≡ Some f
    → bounded_by f (mirrored s) a ≡ Some (low ∷ []) → bounded_by f t c ≡ Some (high ∷ [])
    → range_feature names (side a s (side b t (last_side c))) ≡ Some (bounded f (low ∷ high ∷ []))
two-sided names f a b c s t low high d n l h = rw (d, n, l, h) refl

pub min-prefix : (names : Names) (n : Text) (f : FeatureName) (v : Components)
    → named names n ≡ Some f → named names (codes "min-" ++ n) ≡ None
    → plain_from (plain_name names (codes "min-" ++ n)) (Some v) ≡ one_bound f AtLeast v
min-prefix names n f v e g = rw (g, e) refl

pub max-prefix : (names : Names) (n : Text) (f : FeatureName) (v : Components)
    → named names n ≡ Some f → named names (codes "max-" ++ n) ≡ None
    → plain_from (plain_name names (codes "max-" ++ n)) (Some v) ≡ one_bound f AtMost v
max-prefix names n f v e g = rw (g, e) refl

pub range-first : (names : Names) (f : FeatureName) (s : Comparison) (a v : Components) (q : SizeFeature)
    → side_name names a ≡ Some f → one_bound f s v ≡ Some q → range_feature names (side a s (last_side v)) ≡ Some q
range-first names f s a v q n o = rw (n, o) refl
