-- Which value component values are of a property (CSS Syntax 3, section 5.4.6; CSS Cascade 4, section
-- 7.3; the modules of each property).
use Rattle.std.specs.Prelude.{if◌then◌else◌, List, [], ◌∷◌, codes, Option, None, option_map, option_and_then, Bool}
use Rattle.std.specs.List.{find}
use Rattle.std.specs.Map.{lookup}
use Rattle.std.specs.Option.{option_or}
use Rattle.std.specs.Str.{str_eq_ignore_ascii_case}
use Rattle.css_model.specs.Classes.{Text}
use Rattle.css_model.specs.Components.{Component, Components}
use Rattle.rules_model.specs.ComponentLists.{ident_of}
use Rattle.value_model.specs.declared.prop.Prop.{Prop}
use Rattle.value_model.specs.declared.prop.Prop.TheVariants.{Width, Height, MinWidth, MinHeight, MaxWidth, MaxHeight, MarginTop, MarginRight, MarginBottom, MarginLeft, PaddingTop, PaddingRight, PaddingBottom, PaddingLeft}
use Rattle.value_model.specs.declared.wide_keyword.WideKeyword.{WideKeyword}
use Rattle.value_model.specs.declared.wide_keyword.WideKeyword.TheVariants.{Inherit, Initial, Unset, Revert}
use Rattle.value_model.specs.Forms.{Form, value_of_form}
use Rattle.value_model.specs.Properties.{property, properties}
use Rattle.value_model.specs.Values.{Value, wide_keyword}
use Rattle.value_model.specs.Words.{words_of}

-- ---- names

-- other names of properties, where text runs from left to right and from top to bottom (CSS Logical 1,
-- section 4)
abbrev pub logical_names : List (Text × Prop)
logical_names =
    (codes "inline-size", Width) ∷ (codes "block-size", Height)
    ∷ (codes "min-inline-size", MinWidth) ∷ (codes "min-block-size", MinHeight)
    ∷ (codes "max-inline-size", MaxWidth) ∷ (codes "max-block-size", MaxHeight)
    ∷ (codes "margin-block-start", MarginTop) ∷ (codes "margin-block-end", MarginBottom)
    ∷ (codes "margin-inline-start", MarginLeft) ∷ (codes "margin-inline-end", MarginRight)
    ∷ (codes "padding-block-start", PaddingTop) ∷ (codes "padding-block-end", PaddingBottom)
    ∷ (codes "padding-inline-start", PaddingLeft) ∷ (codes "padding-inline-end", PaddingRight)
    ∷ []

abbrev pub is_name_of : Text → Prop → Bool
is_name_of name p = str_eq_ignore_ascii_case name (property p).name

-- the property of this name, in any case
abbrev pub property_of_name : Text → Option Prop
property_of_name name =
    option_or (find (is_name_of name) properties) (lookup (str_eq_ignore_ascii_case name) logical_names)

-- ---- values

abbrev pub wide_keywords : List (Text × WideKeyword)
wide_keywords =
    (codes "inherit", Inherit) ∷ (codes "initial", Initial)
    ∷ (codes "unset", Unset) ∷ (codes "revert", Revert) ∷ []

-- the CSS-wide keyword that stands alone, in any case
abbrev pub wide_keyword_of : List Component → Option WideKeyword
wide_keyword_of (c ∷ []) =
    option_and_then (λ name. lookup (str_eq_ignore_ascii_case name) wide_keywords) (ident_of c)
wide_keyword_of words = None

-- the value of the first of these forms that the component values are of
abbrev pub value_of_forms : List Form → List Component → Option Value
value_of_forms [] words = None
value_of_forms (form ∷ forms) words = option_or (value_of_form form words) (value_of_forms forms words)

-- the value of a property, other than a CSS-wide keyword
abbrev pub own_value_of : Prop → List Component → Option Value
own_value_of p words = value_of_forms (property p).forms words

-- the value of a property
abbrev pub value_of : Prop → Components → Option Value
value_of p cs =
    option_or (option_map (λ w. wide_keyword w) (wide_keyword_of (words_of cs))) (own_value_of p (words_of cs))
