-- Features of a size in their plain, boolean and range forms (Media Queries 4, sections 2.4 and 4.1 to
-- 4.4).
use Rattle.std.specs.Prelude.{ℤ, pos, int_le, ◌==◌, if◌then◌else◌, List, [], ◌∷◌, take, drop, codes, Option, Some, None, option_map, option_and_then, Bool, true, false}
use Rattle.std.specs.Option.{option_or}
use Rattle.std.specs.Map.{lookup}
use Rattle.units64.specs.declared.constants.TheConstants.{MILLIONTHS_PER_PIXEL}
use Rattle.css_model.specs.declared.token.TokenType.{TokenType}
use Rattle.css_model.specs.declared.token.TokenType.TheVariants.{Delim, Number}
use Rattle.css_model.specs.Classes.{Text}
use Rattle.css_model.specs.Components.{Component, preserved, simple_block, Components, no_components, component}
use Rattle.rules_model.specs.ComponentLists.{is_token, ident_of, is_whitespace, trimmed}
use Rattle.rules_model.specs.Declarations.{after_colon}
use Rattle.conditions_model.specs.declared.comparison.Comparison.{Comparison}
use Rattle.conditions_model.specs.declared.comparison.Comparison.TheVariants.{LessThan, AtMost, EqualTo, AtLeast, MoreThan}
use Rattle.conditions_model.specs.declared.feature_name.FeatureName.{FeatureName}
use Rattle.conditions_model.specs.declared.feature_name.FeatureName.TheVariants.{Width, Height, AspectRatio, Orientation}
use Rattle.conditions_model.specs.declared.orientation.Orientation.{Orientation as OrientationValue}
use Rattle.conditions_model.specs.declared.orientation.Orientation.TheVariants.{Portrait, Landscape}
use Rattle.conditions_model.specs.ConditionWords.{is_keyword}
use Rattle.conditions_model.specs.Conditions.{is_round_type}
use Rattle.value_model.specs.CalculationGrammar.{any_length_of}
use Rattle.value_model.specs.Calculations.{Calculation}
use Rattle.value_model.specs.Lengths.{Length}

-- what a feature is compared with: a length, literal or calculated, or a ratio in millionths
pub data FeatureValue : Type 0 where
  length_value : Calculation Length → FeatureValue
  ratio_value : (across down : ℤ) → FeatureValue

-- a comparison of a feature, and what it is compared with
pub record Bound : Type 0 where
  pub comparison : Comparison
  pub value : FeatureValue

-- a feature in its boolean form; `orientation` in its plain form; or another one that meets all of these
pub data SizeFeature : Type 0 where
  boolean : FeatureName → SizeFeature
  orientation_is : OrientationValue → SizeFeature
  bounded : FeatureName → List Bound → SizeFeature

-- ---- names

-- which names stand for which features; `@media` and `@container` have not the same ones
abbrev pub Names : Type 0
Names = List (Text × FeatureName)

-- the feature of this name, in any case
abbrev pub named : Names → Text → Option FeatureName
named names name = lookup (λ n. is_keyword n name) names

-- the feature that a component value names
abbrev pub feature_name : Names → Component → Option FeatureName
feature_name names c = option_and_then (named names) (ident_of c)

-- the prefixes of range features in the plain form (2.4.4)
abbrev pub prefix_comparison : Text → Option Comparison
prefix_comparison prefix =
    if is_keyword (codes "min-") prefix then Some AtLeast
    else if is_keyword (codes "max-") prefix then Some AtMost
    else None

abbrev pub with_comparison : Option Comparison → Option FeatureName → Option (Comparison × FeatureName)
with_comparison (Some comparison) (Some f) = Some (comparison, f)
with_comparison comparison f = None

-- the feature of a name in the plain form, with its comparison
abbrev pub plain_name : Names → Text → Option (Comparison × FeatureName)
plain_name names name = option_or (with_comparison (Some EqualTo) (named names name))
    (with_comparison (prefix_comparison (take 4 name)) (named names (drop 4 name)))

-- ---- values

-- the only component value, if there is just one
abbrev pub only_component : Components → Option Component
only_component (component c no_components) = Some c
only_component other = None

abbrev pub number_of : TokenType → Option ℤ
number_of (Number n) = if int_le (pos 0) n.millionths then Some n.millionths else None
number_of other = None

-- a number that is at least 0, in millionths
abbrev pub ratio_number : Component → Option ℤ
ratio_number (preserved t) = number_of t.token_type
ratio_number other = None

abbrev pub is_slash_type : TokenType → Bool
is_slash_type (Delim c) = c == 47
is_slash_type other = false

abbrev pub without_whitespace : Components → Components
without_whitespace no_components = no_components
without_whitespace (component c cs) =
    if is_whitespace c then without_whitespace cs else component c (without_whitespace cs)

abbrev pub ratio_from : Option ℤ → Option ℤ → Option FeatureValue
ratio_from (Some across) (Some down) = Some (ratio_value across down)
ratio_from across down = None

-- `<ratio>`: a number, or two with `/`; a number alone is divided by 1, a million millionths (CSS Values
-- 4, section 5.7)
abbrev pub ratio_of : Components → Option FeatureValue
ratio_of (component a no_components) = ratio_from (ratio_number a) (Some MILLIONTHS_PER_PIXEL)
ratio_of (component a (component slash (component b no_components))) =
    if is_token is_slash_type slash then ratio_from (ratio_number a) (ratio_number b) else None
ratio_of other = None

-- a value of this feature that can be compared; `orientation` has none
abbrev pub value_of : FeatureName → Components → Option FeatureValue
value_of Width cs = option_map length_value (option_and_then (any_length_of false) (only_component (trimmed cs)))
value_of Height cs = option_map length_value (option_and_then (any_length_of false) (only_component (trimmed cs)))
value_of AspectRatio cs = ratio_of (without_whitespace cs)
value_of Orientation cs = None

abbrev pub orientation_of_name : Text → Option OrientationValue
orientation_of_name name =
    if is_keyword (codes "portrait") name then Some Portrait
    else if is_keyword (codes "landscape") name then Some Landscape
    else None

abbrev pub orientation_of : Components → Option OrientationValue
orientation_of cs = option_and_then orientation_of_name (option_and_then ident_of (only_component (trimmed cs)))

-- ---- the boolean form, `(f)` (2.4.2)

abbrev pub boolean_form : Names → Components → Option SizeFeature
boolean_form names cs = option_map boolean (option_and_then (feature_name names) (only_component cs))

-- ---- the plain form, `(f: v)` (2.4)

abbrev pub bounded_by : FeatureName → Comparison → Components → Option (List Bound)
bounded_by f comparison cs = option_map (λ v. record { comparison = comparison; value = v } ∷ []) (value_of f cs)

abbrev pub one_bound : FeatureName → Comparison → Components → Option SizeFeature
one_bound f comparison cs = option_map (bounded f) (bounded_by f comparison cs)

abbrev pub plain_feature : Comparison × FeatureName → Components → Option SizeFeature
plain_feature (EqualTo, Orientation) cs = option_map orientation_is (orientation_of cs)
plain_feature (comparison, f) cs = one_bound f comparison cs

abbrev pub plain_from : Option (Comparison × FeatureName) → Option Components → Option SizeFeature
plain_from (Some f) (Some cs) = plain_feature f cs
plain_from f cs = None

abbrev pub plain_form : Names → Components → Option SizeFeature
plain_form names no_components = None
plain_form names (component c cs) = plain_from (option_and_then (plain_name names) (ident_of c)) (after_colon cs)

-- ---- the range forms, `(f < v)`, `(v < f)` and `(v < f < v)` (2.4.3)

-- what stands between signs of comparison, and these signs
pub data Sides : Type 0 where
  last_side : Components → Sides
  side : Components → Comparison → Sides → Sides

-- `<`, `=` or `>`
abbrev pub sign_of_type : TokenType → Option Comparison
sign_of_type (Delim c) =
    if c == 60 then Some LessThan else if c == 61 then Some EqualTo else if c == 62 then Some MoreThan else None
sign_of_type other = None

abbrev pub sign_of : Component → Option Comparison
sign_of (preserved t) = sign_of_type t.token_type
sign_of other = None

-- a component value in front of the first side
abbrev pub in_first_side : Component → Sides → Sides
in_first_side c (last_side cs) = last_side (component c cs)
in_first_side c (side cs sign rest) = side (component c cs) sign rest

-- a sign in front; `<` and `>` are one sign with a `=` right after them
abbrev pub after_sign : Comparison → Sides → Sides
after_sign LessThan (side no_components EqualTo rest) = side no_components AtMost rest
after_sign MoreThan (side no_components EqualTo rest) = side no_components AtLeast rest
after_sign sign rest = side no_components sign rest

abbrev pub sign_or_value : Option Comparison → Component → Sides → Sides
sign_or_value (Some sign) c rest = after_sign sign rest
sign_or_value None c rest = in_first_side c rest

abbrev pub sides_of : Components → Sides
sides_of no_components = last_side no_components
sides_of (component c cs) = sign_or_value (sign_of c) c (sides_of cs)

-- the comparison from the other side
abbrev pub mirrored : Comparison → Comparison
mirrored LessThan = MoreThan
mirrored AtMost = AtLeast
mirrored EqualTo = EqualTo
mirrored AtLeast = AtMost
mirrored MoreThan = LessThan

-- both go up, or both down
abbrev pub is_one_direction : Comparison → Comparison → Bool
is_one_direction LessThan LessThan = true
is_one_direction LessThan AtMost = true
is_one_direction AtMost LessThan = true
is_one_direction AtMost AtMost = true
is_one_direction MoreThan MoreThan = true
is_one_direction MoreThan AtLeast = true
is_one_direction AtLeast MoreThan = true
is_one_direction AtLeast AtLeast = true
is_one_direction a b = false

-- the feature that a side names
abbrev pub side_name : Names → Components → Option FeatureName
side_name names cs = option_and_then (feature_name names) (only_component (trimmed cs))

abbrev pub both_bounds : Option (List Bound) → Option (List Bound) → Option (List Bound)
both_bounds (Some (b ∷ bs)) (Some ds) = Some (b ∷ ds)
both_bounds bs ds = None

abbrev pub two_bounds : FeatureName → Comparison × Components → Comparison × Components → Option SizeFeature
two_bounds f low high =
    option_map (bounded f) (both_bounds (bounded_by f low.0 low.1) (bounded_by f high.0 high.1))

abbrev pub range_feature : Names → Sides → Option SizeFeature
range_feature names (side a sign (last_side b)) = option_or
    (option_and_then (λ f. one_bound f sign b) (side_name names a))
    (option_and_then (λ f. one_bound f (mirrored sign) a) (side_name names b))
range_feature names (side a sign (side b sign' (last_side c))) =
    if is_one_direction sign sign'
    then option_and_then (λ f. two_bounds f (mirrored sign, a) (sign', c)) (side_name names b)
    else None
range_feature names other = None

abbrev pub range_form : Names → Components → Option SizeFeature
range_form names cs = range_feature names (sides_of cs)

-- ---- a feature

-- `<media-feature>` without its brackets
abbrev pub feature_of : Names → Components → Option SizeFeature
feature_of names cs = option_or (boolean_form names cs) (option_or (plain_form names cs) (range_form names cs))

-- the feature of a size that a component value is, if it is one
abbrev pub size_feature : Names → Component → Option SizeFeature
size_feature names (simple_block head contents close) =
    if is_round_type head.token_type then feature_of names (trimmed contents) else None
size_feature names other = None
