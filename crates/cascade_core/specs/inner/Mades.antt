-- Values that are kept whole, after substitution.
use Rattle.std.specs.Prelude.{◌≡◌, get_or, List, Option, Some, None, option_map, option_and_then, Bool, true, false}
use Rattle.cascade_model.specs.Substituting.{substituted_value, value_under}
use Rattle.css_tokens.specs.Nested.{components_view}
use Rattle.custom_model.specs.Substitution.{Entries, substituted}
use Rattle.prop_table.specs.Views.{value_view}
use Rattle.prop_table.specs.declared.value.Value.{Value}
use Rattle.value_model.specs.declared.prop.Prop.{Prop}
use Rattle.value_model.specs.Properties.{prop_place}
use Rattle.value_model.specs.Values as values
use Rattle.cascade_core.specs.Tables.{entry}
use Rattle.cascade_core.specs.Views.{kept_value_view}
use Rattle.cascade_core.specs.declared.applied.Applied.{Applied}
use Rattle.cascade_core.specs.declared.kept.KeptValue.{KeptValue}
use Rattle.cascade_core.specs.declared.kept.KeptValue.TheVariants.{Read, Whole}

-- ---- one value

abbrev pub is_whole_value : KeptValue → Bool
is_whole_value (Read v) = false
is_whole_value (Whole name cs) = true

abbrev pub is_whole : Option Applied → Bool
is_whole None = false
is_whole (Some a) = is_whole_value a.value.value

-- what a value that is kept whole is after substitution
abbrev pub whole_after : Entries → Prop → KeptValue → Option values.Value
whole_after entries p (Read v) = None
whole_after entries p (Whole name cs) =
    option_and_then (λ ds. value_under name.value ds p) (substituted entries (components_view cs.value))

abbrev pub winner_after : Entries → Prop → Option Applied → Option values.Value
winner_after entries p None = None
winner_after entries p (Some a) = whole_after entries p a.value.value

-- ---- the values that win

-- a value that was read, or what was made of one that is kept whole
abbrev pub made_kept : List (Option Value) → Prop → KeptValue → Option values.Value
made_kept made p (Read v) = Some (value_view v)
made_kept made p (Whole name cs) = option_map value_view (get_or made (prop_place p) None)

abbrev pub made_value : List (Option Value) → Prop → Option Applied → Option values.Value
made_value made p None = None
made_value made p (Some a) = made_kept made p a.value.value

-- these were made of the values of a table that are kept whole
abbrev pub AreMade : Entries → List (Option Applied) → List (Option Value) → Type 0
AreMade entries table made = (p : Prop) → made_value made p (entry table p)
    ≡ option_and_then (substituted_value entries p)
    (option_map (λ a. kept_value_view a.value.value) (entry table p))
