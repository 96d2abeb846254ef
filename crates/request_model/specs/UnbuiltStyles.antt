-- Which pages have styles that are not built yet: those with units of containers, or conditions of containers.
use Rattle.std.specs.Prelude.{ℕ, ◌||◌, List, [], ◌∷◌, codes, Bool, true, false}
use Rattle.std.specs.List.{list_any}
use Rattle.std.specs.Option.{option_map_or}
use Rattle.std.specs.Str.{str_eq_ignore_ascii_case}
use Rattle.css_model.specs.Classes.{Text}
use Rattle.css_model.specs.Components.{Components, all_tokens_of}
use Rattle.css_model.specs.declared.token.Token.{Token}
use Rattle.css_model.specs.declared.token.TokenType.{TokenType}
use Rattle.css_model.specs.declared.token.TokenType.TheVariants.{Dimension}
use Rattle.page_model.specs.Document.{Node, value_at}
use Rattle.page_model.specs.Pages.{Page}
use Rattle.rules_model.specs.Declarations.{Declaration}
use Rattle.rules_model.specs.declared.conditional_rule.ConditionalRule.{ConditionalRule}
use Rattle.rules_model.specs.declared.conditional_rule.ConditionalRule.TheVariants.{Media, Container}
use Rattle.rules_model.specs.Rules.{Condition, StyleRule}
use Rattle.rules_model.specs.Sheets.{style_attr_of, style_rules_of}
use Rattle.selectors_model.specs.Matching.{elements_of}

-- ---- values

-- the units of containers (CSS Conditional 5, section 7)
abbrev pub unbuilt_units : List Text
unbuilt_units =
    codes "cqw" ∷ codes "cqh" ∷ codes "cqi" ∷ codes "cqb" ∷ codes "cqmin" ∷ codes "cqmax" ∷ []

-- a length in such a unit
abbrev pub is_unbuilt_type : TokenType → Bool
is_unbuilt_type (Dimension n name) = list_any (str_eq_ignore_ascii_case name) unbuilt_units
is_unbuilt_type other = false

abbrev pub is_unbuilt_token : Token → Bool
is_unbuilt_token t = is_unbuilt_type t.token_type

-- such a length stands in the value, however deep
abbrev pub is_unbuilt_value : Components → Bool
is_unbuilt_value value = list_any is_unbuilt_token (all_tokens_of value)

-- ---- declarations

-- one stands in the value of a property or of a custom property, be it right or not
abbrev pub is_unbuilt_declaration : Declaration → Bool
is_unbuilt_declaration d = is_unbuilt_value d.value

abbrev pub has_unbuilt : List Declaration → Bool
has_unbuilt ds = list_any is_unbuilt_declaration ds

-- ---- pages

abbrev pub is_container : ConditionalRule → Bool
is_container Media = false
is_container Container = true

-- one of these conditions is that of a container (CSS Conditional 5, section 5.4)
abbrev pub any_container : List Condition → Bool
any_container conditions = list_any (λ c. is_container c.at_rule) conditions

-- a rule inside `@container`, or with such a declaration
abbrev pub is_unbuilt_rule : StyleRule → Bool
is_unbuilt_rule r = any_container r.conditions || has_unbuilt r.declarations

abbrev pub has_unbuilt_rule : Text → Bool
has_unbuilt_rule css = list_any is_unbuilt_rule (style_rules_of css)

-- the `style` attribute of an element has such a declaration
abbrev pub has_unbuilt_attribute : Node → ℕ → Bool
has_unbuilt_attribute root i =
    option_map_or (λ text. has_unbuilt (style_attr_of text)) (value_at (codes "style") i root) false

abbrev pub has_unbuilt_styles : Page → Bool
has_unbuilt_styles page =
    list_any has_unbuilt_rule page.sheets
    || list_any (has_unbuilt_attribute page.document.root) (elements_of page.document.root)
