-- How the value of an attribute is compared (Selectors 4, sections 6.1 and 6.2).
use Rattle.std.specs.Prelude.{ℕ, ◌&&◌, ◌||◌, not, nat_eq, if◌then◌else◌, List, [], ◌∷◌, ◌++◌, Bool, false}
use Rattle.std.specs.Char.{is_ascii_whitespace}
use Rattle.std.specs.List.{list_any, starts_with, ends_with}
use Rattle.css_model.specs.Classes.{hyphen, is_empty}
use Rattle.page_model.specs.Attributes.{is_same_text}
use Rattle.page_model.specs.Trees.{Text}
use Rattle.selectors_model.specs.declared.attribute_matcher.AttributeMatcher.{AttributeMatcher}
use Rattle.selectors_model.specs.declared.attribute_matcher.AttributeMatcher.TheVariants.{Equals, Includes, DashMatch, Prefix, Suffix, Substring}

-- a code point in front of the first text
abbrev pub in_first_text : ℕ → List Text → List Text
in_first_text c [] = (c ∷ []) ∷ []
in_first_text c (cs ∷ texts) = (c ∷ cs) ∷ texts

-- what is before, between and after the white space of a text: its words, and empty texts
abbrev pub between_whitespace : Text → List Text
between_whitespace [] = [] ∷ []
between_whitespace (c ∷ cs) =
    if is_ascii_whitespace c then [] ∷ between_whitespace cs else in_first_text c (between_whitespace cs)

-- one of the words of a text is this value; an empty one is no word
abbrev pub has_word : Text → Text → Bool
has_word actual value = not (is_empty value) && list_any (is_same_text value) (between_whitespace actual)

-- the value begins somewhere in the text
abbrev pub has_inside : Text → Text → Bool
has_inside [] value = false
has_inside (c ∷ cs) value = starts_with nat_eq (c ∷ cs) value || has_inside cs value

-- the actual value of an attribute compared with the one of a selector
abbrev pub value_matches : AttributeMatcher → Text → Text → Bool
value_matches Equals actual value = is_same_text actual value
value_matches Includes actual value = has_word actual value
value_matches DashMatch actual value =
    is_same_text actual value || starts_with nat_eq actual (value ++ (hyphen ∷ []))
value_matches Prefix actual value = not (is_empty value) && starts_with nat_eq actual value
value_matches Suffix actual value = not (is_empty value) && ends_with nat_eq actual value
value_matches Substring actual value = not (is_empty value) && has_inside actual value
