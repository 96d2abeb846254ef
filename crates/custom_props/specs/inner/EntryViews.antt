-- Which values of the definitions entries have.
use Rattle.std.specs.Prelude.{ℕ, List, slice_get, Option, option_map, option_and_then}
use Rattle.css_model.specs.Components.{Components}
use Rattle.css_tokens.specs.Nested.{components_view}
use Rattle.custom_props.specs.declared.entry.Entry.{Entry}

abbrev pub entry_view : Entry → Option Components
entry_view e = option_map (λ v. components_view v.value) e.value

-- the entry in a place
abbrev pub entry_in : List Entry → ℕ → Option Components
entry_in table i = option_and_then entry_view (slice_get table i)
