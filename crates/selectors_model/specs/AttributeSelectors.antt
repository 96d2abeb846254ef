-- What stands in the brackets of an attribute selector (Selectors 4, section 6).
use Rattle.std.specs.Prelude.{ℕ, ◌==◌, if◌then◌else◌, List, [], ◌∷◌, Option, Some, None, option_map, Bool, false}
use Rattle.std.specs.Map.{lookup}
use Rattle.css_model.specs.declared.token.TokenType.{TokenType}
use Rattle.css_model.specs.declared.token.TokenType.TheVariants.{Ident, String, Delim}
use Rattle.css_model.specs.Classes.{Text}
use Rattle.selectors_model.specs.declared.attribute_matcher.AttributeMatcher.{AttributeMatcher}
use Rattle.selectors_model.specs.declared.attribute_matcher.AttributeMatcher.TheVariants.{Equals, Includes, DashMatch, Prefix, Suffix, Substring}
use Rattle.selectors_model.specs.TokenTypes.{without_front_whitespace}
use Rattle.selectors_model.specs.Selectors.{Simple, attribute_present, attribute_value}

-- `=` is a delim
abbrev pub is_equals : TokenType → Bool
is_equals (Delim c) = c == 61
is_equals token_type = false

-- what is before the `=` of each matcher other than `=`
abbrev pub matchers : List (ℕ × AttributeMatcher)
matchers =
    (126, Includes) ∷ (124, DashMatch) ∷ (94, Prefix) ∷ (36, Suffix) ∷ (42, Substring) ∷ []

-- an identifier or a string, and no more
abbrev pub value_alone : Text → List TokenType → Option Text
value_alone value [] = Some value
value_alone value (t ∷ ts) = None

abbrev pub value_of : List TokenType → Option Text
value_of (Ident value ∷ ts) = value_alone value (without_front_whitespace ts)
value_of (String value ∷ ts) = value_alone value (without_front_whitespace ts)
value_of ts = None

-- a value after a matcher
abbrev pub attribute_with : Text → AttributeMatcher → List TokenType → Option Simple
attribute_with name matcher ts =
    option_map (λ value. attribute_value name matcher value) (value_of (without_front_whitespace ts))

-- the same where the first part of the matcher was before this: the `=` is right after it
abbrev pub attribute_after : Text → Option AttributeMatcher → List TokenType → Option Simple
attribute_after name (Some matcher) (t ∷ ts) =
    if is_equals t then attribute_with name matcher ts else None
attribute_after name matcher ts = None

-- what is after the name: nothing, or a matcher and a value
abbrev pub attribute_from : Text → List TokenType → Option Simple
attribute_from name [] = Some (attribute_present name)
attribute_from name (Delim c ∷ ts) =
    if c == 61 then attribute_with name Equals ts
    else attribute_after name (lookup (λ d. c == d) matchers) ts
attribute_from name ts = None

abbrev pub attribute_named : List TokenType → Option Simple
attribute_named (Ident name ∷ ts) = attribute_from name (without_front_whitespace ts)
attribute_named ts = None

-- the attribute selector with this in its brackets; white space may be at each place but in a matcher
abbrev pub attribute_of : List TokenType → Option Simple
attribute_of ts = attribute_named (without_front_whitespace ts)
