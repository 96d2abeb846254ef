-- What private readers of values find, one component value at a time.
use Rattle.std.specs.Prelude.{nat_lt, ◌||◌, not, if◌then◌else◌, length, Option, Some, None, option_map, is_some, Bool}
use Rattle.std.specs.List.{list_all}
use Rattle.css_model.specs.declared.token.TokenType.{TokenType}
use Rattle.css_model.specs.Classes.{Text}
use Rattle.css_model.specs.Components.{Component, Components, no_components, component}
use Rattle.rules_model.specs.ComponentLists.{is_semicolon_type}
use Rattle.rules_model.specs.Declarations.{is_exclamation_type}
use Rattle.custom_model.specs.References.{is_comma, is_var_type, reference_in, reference_to, vars_in}

-- ---- one component value

abbrev pub is_or_has_var : Component → Bool
is_or_has_var c = nat_lt 0 (length (vars_in c))

-- what is asked of the contents of a `var()`
abbrev pub is_reference : Components → Bool
is_reference contents = is_some (reference_in contents)

abbrev pub is_right : Component → Bool
is_right c = list_all is_reference (vars_in c)

abbrev pub has_right_form : TokenType → Components → Bool
has_right_form t contents = not (is_var_type t) || is_reference contents

abbrev pub is_semicolon_or_exclamation_type : TokenType → Bool
is_semicolon_or_exclamation_type t = is_semicolon_type t || is_exclamation_type t

-- ---- the contents of a `var()`

-- the name, where what is after it makes a reference
abbrev pub named_before : Text → Components → Option Text
named_before name cs = option_map (λ r. r.name) (reference_to name cs)

-- what is after the first `,`
abbrev pub after_comma : Components → Option Components
after_comma no_components = None
after_comma (component c cs) = if is_comma c then Some cs else after_comma cs

-- ---- what stands in place of component values

-- what replaces component values was appended, if anything does
abbrev pub appended : Bool → Components → Option Components
appended found new = if found then Some new else None
