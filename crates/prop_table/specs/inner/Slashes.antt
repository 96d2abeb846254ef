-- Words before and after a `/`.
use Rattle.std.specs.Prelude.{List, [], Option, Some, option_map}
use Rattle.std.specs.Option.{option_copied}
use Rattle.css_model.specs.Components.{Component}
use Rattle.css_tokens.specs.Nested.{components_view}
use Rattle.value_model.specs.declared.prop.Prop.TheVariants.{ContainerName, ContainerType}
use Rattle.value_model.specs.Forms.{in_front}
use Rattle.value_model.specs.Shorthands.{Longhand}
use Rattle.value_model.specs.Values.{Value}
use Rattle.value_model.specs.Words.{words_of}
use Rattle.prop_table.specs.declared.slash.Slashed.{Slashed}

abbrev pub words_before : Slashed → List Component
words_before s = words_of (components_view s.before.now)

abbrev pub words_after : Slashed → Option (List Component)
words_after s = option_map (λ cs. words_of (components_view cs)) (option_copied s.after)

-- names and a type, if both are there
abbrev pub both : Option Value → Option Value → Option (List Longhand)
both names container_type = in_front (option_map (λ v. (ContainerName, v)) names)
    (in_front (option_map (λ v. (ContainerType, v)) container_type) (Some []))
