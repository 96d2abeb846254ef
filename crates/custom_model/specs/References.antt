-- References to custom properties by `var()`, and values that have them (CSS Custom Properties 1,
-- sections 2 and 3). What a fallback or a custom property may hold is the `<declaration-value>` of CSS
-- Syntax 3, section 8.2.
use Rattle.std.specs.Prelude.{nat_lt, ◌&&◌, ◌||◌, not, if◌then◌else◌, List, [], ◌∷◌, ◌++◌, length, codes, filter_map, Option, Some, None, option_map, option_and_then, is_some, Bool, true, false}
use Rattle.std.specs.List.{list_all}
use Rattle.std.specs.Str.{str_eq_ignore_ascii_case}
use Rattle.css_model.specs.declared.token.TokenType.{TokenType}
use Rattle.css_model.specs.declared.token.TokenType.TheVariants.{Function, BadString, BadUrl, Comma, Closing}
use Rattle.css_model.specs.Classes.{Text, has_front}
use Rattle.css_model.specs.Components.{Component, preserved, simple_block, function_block, Components, no_components, component}
use Rattle.rules_model.specs.ComponentLists.{is_token, is_whitespace, is_semicolon, ident_of}
use Rattle.rules_model.specs.Declarations.{is_exclamation_type}

-- ---- names

-- a name of a custom property: `--` and more
abbrev pub is_custom_name : Text → Bool
is_custom_name name = has_front (codes "--") name && nat_lt 2 (length name)

-- the name of a custom property that a component value is, if it is one
abbrev pub custom_name_of : Component → Option Text
custom_name_of c = option_and_then (λ name. if is_custom_name name then Some name else None) (ident_of c)

-- ---- `<declaration-value>`

-- a bad string, a bad url, or a closing bracket
abbrev pub is_bad_type : TokenType → Bool
is_bad_type BadString = true
is_bad_type BadUrl = true
is_bad_type (Closing b) = true
is_bad_type other = false

-- no preserved token is bad, at any depth: there a closing bracket has no match
abbrev mutual
  pub has_no_bad_token : Component → Bool
  has_no_bad_token (preserved t) = not (is_bad_type t.token_type)
  has_no_bad_token (simple_block head contents close) = have_no_bad_token contents
  has_no_bad_token (function_block head contents close) = have_no_bad_token contents

  pub have_no_bad_token : Components → Bool
  have_no_bad_token no_components = true
  have_no_bad_token (component c cs) = has_no_bad_token c && have_no_bad_token cs

-- `;` or `!`
abbrev pub is_semicolon_or_exclamation : Component → Bool
is_semicolon_or_exclamation c = is_semicolon c || is_token is_exclamation_type c

-- neither stands here, but perhaps deeper
abbrev pub have_no_semicolon_or_exclamation : Components → Bool
have_no_semicolon_or_exclamation no_components = true
have_no_semicolon_or_exclamation (component c cs) =
    not (is_semicolon_or_exclamation c) && have_no_semicolon_or_exclamation cs

-- a `<declaration-value>`, or nothing
abbrev pub is_declaration_value : Components → Bool
is_declaration_value cs = have_no_bad_token cs && have_no_semicolon_or_exclamation cs

-- ---- what stands in a `var()`

-- the name of a custom property, and the fallback, which may be empty
pub record Reference : Type 0 where
  pub name : Text
  pub fallback : Option Components

abbrev pub is_comma_type : TokenType → Bool
is_comma_type Comma = true
is_comma_type other = false

abbrev pub is_comma : Component → Bool
is_comma c = is_token is_comma_type c

-- the reference to this name, by what is after it: perhaps white space, and no more or `,` and the fallback
abbrev pub reference_to : Text → Components → Option Reference
reference_to name no_components = Some (record { name = name; fallback = None })
reference_to name (component c cs) =
    if is_whitespace c then reference_to name cs
    else if is_comma c && is_declaration_value cs then Some (record { name = name; fallback = Some cs })
    else None

-- the reference that the contents of a `var()` are, if they are of the right form
abbrev pub reference_in : Components → Option Reference
reference_in no_components = None
reference_in (component c cs) =
    if is_whitespace c then reference_in cs
    else option_and_then (λ name. reference_to name cs) (custom_name_of c)

-- ---- values with `var()`

-- `var(`, in any case
abbrev pub is_var_type : TokenType → Bool
is_var_type (Function name) = str_eq_ignore_ascii_case name (codes "var")
is_var_type other = false

-- the contents of each `var()` in component values, at any depth, also in those of another one
abbrev mutual
  pub vars_in : Component → List Components
  vars_in (preserved t) = []
  vars_in (simple_block head contents close) = all_vars_in contents
  vars_in (function_block head contents close) =
      if is_var_type head.token_type then contents ∷ all_vars_in contents else all_vars_in contents

  pub all_vars_in : Components → List Components
  all_vars_in no_components = []
  all_vars_in (component c cs) = vars_in c ++ all_vars_in cs

-- whether a value has a `var()`
abbrev pub has_var : Components → Bool
has_var value = nat_lt 0 (length (all_vars_in value))

-- whether each `var()` of a value is of the right form
abbrev pub has_right_vars : Components → Bool
has_right_vars value = list_all (λ contents. is_some (reference_in contents)) (all_vars_in value)

-- the names that a value refers to, those in fallbacks included
abbrev pub names_in : Components → List Text
names_in value = filter_map (λ contents. option_map (λ r. r.name) (reference_in contents)) (all_vars_in value)

-- a value of a property that is kept until its `var()` are replaced, whatever else stands in it (section 3)
abbrev pub is_kept_whole : Components → Bool
is_kept_whole value = has_var value && has_right_vars value

-- a value of a custom property (section 2); a CSS-wide keyword is one
abbrev pub is_custom_value : Components → Bool
is_custom_value value = is_declaration_value value && has_right_vars value

-- a declaration of a custom property; that of another name is none
abbrev pub is_custom_declaration : Text → Components → Bool
is_custom_declaration name value = is_custom_name name && is_custom_value value
