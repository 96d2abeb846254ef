-- Words of the examples: values and environments of texts.
use Rattle.std.specs.Prelude.{ℕ, zero, suc, List, [], ◌∷◌, map, length, codes, Option, Some, option_map, Bool}
use Rattle.std.specs.List.{join_with_byte, repeat}
use Rattle.css_model.specs.declared.token.TokenType.TheVariants.{Ident}
use Rattle.css_model.specs.Classes.{Text, space}
use Rattle.css_model.specs.Components.{preserved, Components, no_components, component, all_tokens_of}
use Rattle.css_model.specs.TokenList.{token_at}
use Rattle.rules_model.specs.inner.Examples.{spelled}
use Rattle.rules_model.specs.Sheets.{components_of, style_attr_of}
use Rattle.custom_model.specs.NamedValues.{NamedValues, value_named}
use Rattle.custom_model.specs.References.{has_right_vars, has_var, is_custom_declaration, is_custom_value, is_kept_whole, names_in}
use Rattle.custom_model.specs.Substitution.{substituted, substituted_within}
use Rattle.custom_model.specs.ValueText.{value_text}
use Rattle.custom_model.specs.inner.Finding.{environment_of, is_on_cycle}

-- ---- values

-- whether each `var()` of a text is of the right form
abbrev pub is_right : Text → Bool
is_right text = has_right_vars (components_of text)

abbrev pub is_var : Text → Bool
is_var text = has_var (components_of text)

-- the names to which a text refers
abbrev pub names : Text → List Text
names text = names_in (components_of text)

-- whether a text is a value of a custom property
abbrev pub is_custom : Text → Bool
is_custom text = is_custom_value (components_of text)

-- ---- declarations

-- the names and values of declarations
abbrev pub values_of : Text → NamedValues
values_of text = map (λ d. (d.name, d.value)) (style_attr_of text)

-- of each declaration, whether it is one of a custom property
abbrev pub customs : Text → List Bool
customs text = map (λ d. is_custom_declaration d.name d.value) (style_attr_of text)

-- of the name of each declaration, whether it is on a cycle
abbrev pub cycles : Text → List Bool
cycles text = map (λ v. is_on_cycle (values_of text) v.0) (values_of text)

-- a value after substitution, where these are the entries, as it is spelled
abbrev pub after : Text → Text → Option Text
after entries text = option_map spelled (substituted (value_named (values_of entries)) (components_of text))

-- the same with limits of its tokens and its levels
abbrev pub after_within : ℕ → ℕ → Text → Text → Option Text
after_within tokens levels entries text =
    option_map spelled (substituted_within tokens levels (value_named (values_of entries)) (components_of text))

-- the environment of declarations below a parent whose entries are those of others, as it is printed
abbrev pub environment : Text → Text → List (Text × Text)
environment declared inherited =
    map (λ v. (v.0, value_text v.1))
    (environment_of (record { declared = values_of declared; inherited = values_of inherited }))

-- a value of another property after substitution in that environment, as it is spelled
abbrev pub in_environment : Text → Text → Text → Option Text
in_environment declared inherited text =
    option_map spelled
    (substituted (value_named (environment_of (record { declared = values_of declared; inherited = values_of inherited })))
    (components_of text))

-- a value as it is printed
abbrev pub printed : Text → Text
printed text = value_text (components_of text)

-- whether a value of another property is kept until its `var()` are replaced
abbrev pub is_kept : Text → Bool
is_kept text = is_kept_whole (components_of text)

-- ---- large values

-- so many component values `x`, without white space between them
abbrev pub many : ℕ → Components
many zero = no_components
many (suc n) = component (preserved (token_at 0 (Ident (codes "x")) (codes "x"))) (many n)

-- how many tokens a value has after substitution where so many stand for each name
abbrev pub of_many : ℕ → Text → Option ℕ
of_many n text = option_map (λ cs. length (all_tokens_of cs)) (substituted (λ name. Some (many n)) (components_of text))

-- so many `[` as they are printed
abbrev pub join_of : ℕ → Text
join_of n = join_with_byte space (map (λ c. c ∷ []) (repeat n (codes "[")))
