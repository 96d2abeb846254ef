-- Media queries and lists of them (Media Queries 4, sections 2.1 to 2.3 and 3).
use Rattle.std.specs.Prelude.{ℤ, pos, ◌*ℤ◌, ◌||◌, if◌then◌else◌, List, [], ◌∷◌, map, codes, Option, Some, None, option_map, Bool, true, false}
use Rattle.std.specs.List.{list_any}
use Rattle.std.specs.Option.{option_or, unwrap_or}
use Rattle.units64.specs.declared.constants.TheConstants.{UNITS_PER_PIXEL}
use Rattle.css_model.specs.declared.token.TokenType.{TokenType}
use Rattle.css_model.specs.declared.token.TokenType.TheVariants.{Comma}
use Rattle.css_model.specs.Classes.{Text}
use Rattle.css_model.specs.Components.{Component, Components, no_components, component}
use Rattle.page_model.specs.declared.viewport.Viewport.{Viewport}
use Rattle.rules_model.specs.ComponentLists.{is_token, are_whitespace}
use Rattle.conditions_model.specs.declared.feature_name.FeatureName.TheVariants.{Width, Height, AspectRatio, Orientation}
use Rattle.conditions_model.specs.declared.media_type.MediaType.{MediaType}
use Rattle.conditions_model.specs.declared.media_type.MediaType.TheVariants.{All, Screen, Other}
use Rattle.conditions_model.specs.declared.tri.Tri.{Tri}
use Rattle.conditions_model.specs.declared.tri.Tri.TheVariants.{Yes}
use Rattle.conditions_model.specs.TriTables.{tri_not, tri_and, tri, is_yes}
use Rattle.conditions_model.specs.ConditionTrees.{ConditionTree, condition_value}
use Rattle.conditions_model.specs.ConditionWords.{Word, ident, is_keyword, condition_without_or, condition_of_words}
use Rattle.conditions_model.specs.Conditions.{all_words_of}
use Rattle.conditions_model.specs.SizeFeatures.{Names, SizeFeature, size_feature}
use Rattle.conditions_model.specs.FeatureValues.{Measured, feature_value}

-- a condition, or a media type, perhaps with a condition, perhaps negated as a whole
pub data MediaQuery : Type 0 where
  condition_query : ConditionTree SizeFeature → MediaQuery
  type_query : (negated : Bool) (media_type : MediaType) (also : Option (ConditionTree SizeFeature)) → MediaQuery

-- the features of `@media`
abbrev pub media_names : Names
media_names =
    (codes "width", Width) ∷ (codes "height", Height) ∷ (codes "aspect-ratio", AspectRatio)
    ∷ (codes "orientation", Orientation) ∷ []

-- ---- types (2.3)

-- identifiers that are no media types (3)
abbrev pub reserved : List Text
reserved = codes "not" ∷ codes "and" ∷ codes "or" ∷ codes "only" ∷ codes "layer" ∷ []

-- the media type of this name, in any case
abbrev pub media_type_of : Text → Option MediaType
media_type_of name =
    if list_any (λ word. is_keyword word name) reserved then None
    else if is_keyword (codes "all") name then Some All
    else if is_keyword (codes "screen") name then Some Screen
    else Some Other

abbrev pub type_matches : MediaType → Bool
type_matches All = true
type_matches Screen = true
type_matches Other = false

-- ---- the grammar of queries (3), over words

-- what is after a media type: nothing, or `and <media-condition-without-or>`
abbrev pub after_type : List (Word SizeFeature) → Option (Option (ConditionTree SizeFeature))
after_type [] = Some None
after_type (ident name ∷ ws) =
    if is_keyword (codes "and") name then option_map Some (condition_without_or ws) else None
after_type other = None

abbrev pub typed_from : Bool → Option MediaType → Option (Option (ConditionTree SizeFeature)) → Option MediaQuery
typed_from negated (Some media_type) (Some also) = Some (type_query negated media_type also)
typed_from negated media_type also = None

-- `<media-type> [ and <media-condition-without-or> ]?`
abbrev pub typed_query : Bool → List (Word SizeFeature) → Option MediaQuery
typed_query negated (ident name ∷ ws) = typed_from negated (media_type_of name) (after_type ws)
typed_query negated other = None

-- `not` or `only` in front
abbrev pub modified_query : List (Word SizeFeature) → Option MediaQuery
modified_query (ident name ∷ ws) =
    if is_keyword (codes "not") name then typed_query true ws
    else if is_keyword (codes "only") name then typed_query false ws
    else None
modified_query other = None

-- `<media-query>`: a condition, or one with a type
abbrev pub query_of_words : List (Word SizeFeature) → Option MediaQuery
query_of_words ws = option_or (option_map condition_query (condition_of_words ws))
    (option_or (modified_query ws) (typed_query false ws))

-- `not all`
abbrev pub not_all : MediaQuery
not_all = type_query true All None

-- the query that component values are; what is none is `not all` (3.2)
abbrev pub query_of : Components → MediaQuery
query_of cs = unwrap_or (query_of_words (all_words_of (size_feature media_names) cs)) not_all

-- ---- lists (2.1)

abbrev pub is_comma_type : TokenType → Bool
is_comma_type Comma = true
is_comma_type other = false

-- a component value in front of the first piece
abbrev pub in_first_piece : Component → List Components → List Components
in_first_piece c [] = component c no_components ∷ []
in_first_piece c (cs ∷ pieces) = component c cs ∷ pieces

-- the pieces between commas
abbrev pub between_commas : Components → List Components
between_commas no_components = no_components ∷ []
between_commas (component c cs) =
    if is_token is_comma_type c then no_components ∷ between_commas cs
    else in_first_piece c (between_commas cs)

-- the queries of a list; white space alone has none
abbrev pub queries_of : Components → List MediaQuery
queries_of cs = if are_whitespace cs then [] else map query_of (between_commas cs)

-- ---- values

-- the initial font size, 16 pixels: queries know no other one (1.3)
abbrev pub initial_font_size : ℤ
initial_font_size = pos 16 *ℤ UNITS_PER_PIXEL

-- what media features are judged on; units of containers stand for those of the viewport
abbrev pub measured_viewport : Viewport → Measured
measured_viewport v =
    let width : ℤ = pos v.width *ℤ UNITS_PER_PIXEL in
    let height : ℤ = pos v.height *ℤ UNITS_PER_PIXEL in
    record {
      width = width;
      height = height;
      bases = record {
        em = initial_font_size;
        rem = initial_font_size;
        vw = width;
        vh = height;
        cqw = width;
        cqh = height;
      };
    }

abbrev pub media_condition_value : Viewport → ConditionTree SizeFeature → Tri
media_condition_value v c = condition_value (feature_value (measured_viewport v)) c

-- without a condition, the type alone counts
abbrev pub also_value : Viewport → Option (ConditionTree SizeFeature) → Tri
also_value v None = Yes
also_value v (Some c) = media_condition_value v c

abbrev pub negated_if : Bool → Tri → Tri
negated_if true value = tri_not value
negated_if false value = value

abbrev pub query_value : Viewport → MediaQuery → Tri
query_value v (condition_query c) = media_condition_value v c
query_value v (type_query negated media_type also) =
    negated_if negated (tri_and (tri (type_matches media_type)) (also_value v also))

abbrev pub is_empty_list : List MediaQuery → Bool
is_empty_list [] = true
is_empty_list (q ∷ queries) = false

-- a list matches where one of its queries is Yes, or where it has none (2.1, 3.1)
abbrev pub media_matches : Viewport → List MediaQuery → Bool
media_matches v queries = is_empty_list queries || list_any (λ q. is_yes (query_value v q)) queries
