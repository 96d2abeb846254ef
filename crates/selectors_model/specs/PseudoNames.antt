-- The names of pseudo-classes and pseudo-elements, in any case (Selectors 4, sections 3.5 and 3.6).
use Rattle.std.specs.Prelude.{◌||◌, if◌then◌else◌, List, [], ◌∷◌, codes, Option, Some, Bool}
use Rattle.std.specs.Char.{eq_ignore_ascii_case}
use Rattle.std.specs.List.{list_any, starts_with}
use Rattle.std.specs.Map.{lookup}
use Rattle.std.specs.Str.{str_eq_ignore_ascii_case}
use Rattle.css_model.specs.Classes.{Text}
use Rattle.selectors_model.specs.declared.pseudo_class.Nth.{Nth}
use Rattle.selectors_model.specs.declared.pseudo_class.Nth.TheVariants.{Child as NthChild, LastChild as NthLastChild, OfType as NthOfType, LastOfType as NthLastOfType}
use Rattle.selectors_model.specs.declared.pseudo_class.PseudoClass.{PseudoClass}
use Rattle.selectors_model.specs.declared.pseudo_class.PseudoClass.TheVariants.{Root, FirstChild, LastChild, OnlyChild, FirstOfType, LastOfType, OnlyOfType, Unmatched}

-- a name is among these
abbrev pub is_one_of : List Text → Text → Bool
is_one_of names name = list_any (str_eq_ignore_ascii_case name) names

-- what this name has in a table
abbrev pub named : {X : Type 0} → List (Text × X) → Text → Option X
named table name = lookup (str_eq_ignore_ascii_case name) table

-- ---- pseudo-classes

-- those that the tree alone decides (section 14)
abbrev pub structural_pseudo_classes : List (Text × PseudoClass)
structural_pseudo_classes =
    (codes "root", Root)
    ∷ (codes "first-child", FirstChild)
    ∷ (codes "last-child", LastChild)
    ∷ (codes "only-child", OnlyChild)
    ∷ (codes "first-of-type", FirstOfType)
    ∷ (codes "last-of-type", LastOfType)
    ∷ (codes "only-of-type", OnlyOfType)
    ∷ []

-- those of links, of what a user does, and of inputs (sections 8, 9 and 13): no element is in such a
-- state here
abbrev pub unmatched_pseudo_classes : List Text
unmatched_pseudo_classes =
    codes "link" ∷ codes "any-link" ∷ codes "visited" ∷ codes "target"
    ∷ codes "hover" ∷ codes "active" ∷ codes "focus" ∷ codes "focus-visible" ∷ codes "focus-within"
    ∷ codes "checked" ∷ codes "disabled" ∷ codes "enabled" ∷ codes "required" ∷ codes "optional"
    ∷ codes "valid" ∷ codes "invalid"
    ∷ []

-- the pseudo-class with this name, if it is known
abbrev pub pseudo_class_of : Text → Option PseudoClass
pseudo_class_of name =
    if is_one_of unmatched_pseudo_classes name then Some Unmatched
    else named structural_pseudo_classes name

-- those that count siblings (14.3 and 14.4)
abbrev pub nth_pseudo_classes : List (Text × Nth)
nth_pseudo_classes =
    (codes "nth-child", NthChild)
    ∷ (codes "nth-last-child", NthLastChild)
    ∷ (codes "nth-of-type", NthOfType)
    ∷ (codes "nth-last-of-type", NthLastOfType)
    ∷ []

-- ---- pseudo-elements

-- those that may stand after one colon too
abbrev pub one_colon_pseudo_elements : List Text
one_colon_pseudo_elements =
    codes "before" ∷ codes "after" ∷ codes "first-line" ∷ codes "first-letter" ∷ []

abbrev pub two_colon_pseudo_elements : List Text
two_colon_pseudo_elements = codes "marker" ∷ codes "selection" ∷ codes "placeholder" ∷ []

abbrev pub is_one_colon_pseudo_element : Text → Bool
is_one_colon_pseudo_element name = is_one_of one_colon_pseudo_elements name

-- each name that begins with `-webkit-` is known, also as a function (appendix B)
abbrev pub is_webkit_pseudo_element : Text → Bool
is_webkit_pseudo_element name = starts_with eq_ignore_ascii_case name (codes "-webkit-")

abbrev pub is_pseudo_element : Text → Bool
is_pseudo_element name =
    is_one_colon_pseudo_element name
    || (is_one_of two_colon_pseudo_elements name || is_webkit_pseudo_element name)
