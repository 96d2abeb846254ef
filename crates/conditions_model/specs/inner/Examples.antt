-- Words of the examples: conditions and queries of texts.
use Rattle.std.specs.Prelude.{ℕ, ℤ, pos, if◌then◌else◌, Option, Some, None, option_map, option_and_then, Bool, ◌*◌, codes}
use Rattle.css_model.specs.Classes.{Text}
use Rattle.css_model.specs.Components.{Component, simple_block, Components, component}
use Rattle.page_model.specs.declared.viewport.Viewport.{Viewport}
use Rattle.rules_model.specs.ComponentLists.{ident_of}
use Rattle.rules_model.specs.Sheets.{components_of}
use Rattle.conditions_model.specs.declared.comparison.Comparison.{Comparison}
use Rattle.conditions_model.specs.declared.tri.Tri.{Tri}
use Rattle.conditions_model.specs.ConditionTrees.{ConditionTree, feature, ConditionTrees, no_conditions, condition}
use Rattle.conditions_model.specs.Conditions.{condition_of, is_round_type}
use Rattle.value_model.specs.declared.length_unit.LengthUnit.{LengthUnit}
use Rattle.value_model.specs.Calculations.{leaf}
use Rattle.value_model.specs.Lengths.{dimension, unit}
use Rattle.conditions_model.specs.MediaQueries.{MediaQuery, media_matches, media_names, queries_of, query_of, query_value}
use Rattle.conditions_model.specs.SizeFeatures.{Bound, FeatureValue, length_value, SizeFeature, boolean, feature_of, only_component, ratio_value}
use Rattle.conditions_model.specs.declared.feature_name.FeatureName.TheVariants.{Width, Height}
use Rattle.value_model.specs.declared.length_unit.LengthBase.TheVariants.{Pixel}

-- ---- conditions

-- features that are one identifier in round brackets
abbrev pub identifier_in_brackets : Component → Option Text
identifier_in_brackets (simple_block head contents close) =
    if is_round_type head.token_type then option_and_then ident_of (only_component contents) else None
identifier_in_brackets other = None

-- the condition that a text is, with such features
abbrev pub tree : Text → Option (ConditionTree Text)
tree text = condition_of identifier_in_brackets (components_of text)

-- the same where each component value is a feature
abbrev pub tree_of_features : Text → Option (ConditionTree Text)
tree_of_features text = condition_of (λ c. Some (codes "a")) (components_of text)

-- three features
abbrev pub a : ConditionTree Text
a = feature (codes "a")

abbrev pub b : ConditionTree Text
b = feature (codes "b")

abbrev pub c : ConditionTree Text
c = feature (codes "c")

-- two conditions
abbrev pub two : ConditionTree Text → ConditionTree Text → ConditionTrees Text
two d e = condition d (condition e no_conditions)

-- three conditions
abbrev pub three : ConditionTree Text → ConditionTree Text → ConditionTree Text → ConditionTrees Text
three d e f = condition d (two e f)

-- ---- features

-- the feature of `@media` that a text is, which stands without its brackets
abbrev pub media_feature : Text → Option SizeFeature
media_feature text = feature_of media_names (components_of text)

abbrev pub bound : Comparison → FeatureValue → Bound
bound comparison value = record { comparison = comparison; value = value }

-- ---- lengths

abbrev pub length : ℤ → LengthUnit → FeatureValue
length millionths unit = length_value (leaf (dimension millionths unit))

-- a length in pixels
abbrev pub px : ℕ → FeatureValue
px n = length (pos (n * 1000000)) (unit Pixel 1 1)

-- a ratio of two whole numbers
abbrev pub ratio : ℕ → ℕ → FeatureValue
ratio across down = ratio_value (pos (across * 1000000)) (pos (down * 1000000))

-- ---- queries

-- a viewport of this width and height, in pixels
abbrev pub viewport : ℕ → ℕ → Viewport
viewport width height = record { width = width; height = height }

-- whether a list of queries matches
abbrev pub matches : ℕ → ℕ → Text → Bool
matches width height text = media_matches (viewport width height) (queries_of (components_of text))

-- the value of one query
abbrev pub value : ℕ → ℕ → Text → Tri
value width height text = query_value (viewport width height) (query_of (components_of text))

-- `(width)` and `(height)`
abbrev pub width_height : ConditionTrees SizeFeature
width_height = condition (feature (boolean Width)) (condition (feature (boolean Height)) no_conditions)

-- the query that a text is
abbrev pub query : Text → MediaQuery
query text = query_of (components_of text)
