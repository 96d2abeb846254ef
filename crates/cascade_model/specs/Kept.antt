-- The declarations of a rule that are kept, a shorthand as its longhands (CSS Syntax 3, section 5.4.6;
-- CSS Cascade 4, section 3; CSS Custom Properties 1, sections 2 and 3).
use Rattle.std.specs.Prelude.{if◌then◌else◌, List, [], ◌∷◌, ◌++◌, map, Option, option_map, option_and_then, unwrap_or, Bool, false}
use Rattle.std.specs.Option.{option_or}
use Rattle.css_model.specs.Classes.{Text}
use Rattle.css_model.specs.Components.{Components}
use Rattle.custom_model.specs.References.{is_custom_name, is_custom_value, is_kept_whole}
use Rattle.page_model.specs.Attributes.{is_same_text}
use Rattle.rules_model.specs.Declarations.{Declaration}
use Rattle.value_model.specs.declared.prop.Prop.{Prop}
use Rattle.value_model.specs.Grammar.{property_of_name, value_of}
use Rattle.value_model.specs.Properties.{is_same_prop}
use Rattle.value_model.specs.Shorthands.{Longhand, expansion_of, longhands, shorthand_of_name}
use Rattle.value_model.specs.Values.{Value}

-- ---- what is kept

-- what a declaration gives a value to: a property, or a custom property
pub data Target : Type 0 where
  of_property : Prop → Target
  of_custom : Text → Target

abbrev pub is_same_target : Target → Target → Bool
is_same_target (of_property p) (of_property q) = is_same_prop p q
is_same_target (of_custom name) (of_custom other) = is_same_text name other
is_same_target t u = false

-- a value that was read, or component values that are kept until their `var()` are replaced, with the name
-- in the declaration, under which they are read then
pub data KeptValue : Type 0 where
  read : Value → KeptValue
  whole : Text → Components → KeptValue

-- a declaration of one property
pub record Kept : Type 0 where
  pub target : Target
  pub value : KeptValue
  pub important : Bool

-- ---- declarations without `var()`

-- the values that component values under a name give to properties, if both are right
abbrev pub longhands_of : Text → Components → Option (List Longhand)
longhands_of name value = option_or
    (option_and_then (λ p. option_map (λ v. (p, v) ∷ []) (value_of p value)) (property_of_name name))
    (option_and_then (λ s. expansion_of s value) (shorthand_of_name name))

abbrev pub kept_longhand : Bool → Longhand → Kept
kept_longhand important l = record { target = of_property l.0; value = read l.1; important = important }

abbrev pub kept_read : Declaration → List Kept
kept_read d = map (kept_longhand d.important) (unwrap_or (longhands_of d.name d.value) [])

-- ---- declarations with `var()`

-- the properties that a name stands for: the one of this name, or the longhands of a shorthand
abbrev pub properties_of_name : Text → List Prop
properties_of_name name = unwrap_or (option_or
    (option_map (λ p. p ∷ []) (property_of_name name))
    (option_map longhands (shorthand_of_name name))) []

abbrev pub whole_value : Declaration → Target → Kept
whole_value d t = record { target = t; value = whole d.name d.value; important = d.important }

-- each longhand has the whole value, and takes its own part of it after substitution
abbrev pub kept_whole : Declaration → List Kept
kept_whole d = map (λ p. whole_value d (of_property p)) (properties_of_name d.name)

-- ---- declarations of custom properties

abbrev pub kept_custom : Declaration → List Kept
kept_custom d = if is_custom_value d.value then whole_value d (of_custom d.name) ∷ [] else []

-- ---- all declarations

-- what is kept of a declaration: nothing where its name is not known or its value is not right
abbrev pub kept_of : Declaration → List Kept
kept_of d =
    if is_custom_name d.name then kept_custom d
    else if is_kept_whole d.value then kept_whole d
    else kept_read d

-- the declarations that are kept of a list, in their order
abbrev pub kept_declarations : List Declaration → List Kept
kept_declarations [] = []
kept_declarations (d ∷ ds) = kept_of d ++ kept_declarations ds
