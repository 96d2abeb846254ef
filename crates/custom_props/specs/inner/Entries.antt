-- The entries that are known while an environment is made.
use Rattle.std.specs.Prelude.{ℕ, List, Option, Some, None}
use Rattle.css_model.specs.Classes.{Text}
use Rattle.css_model.specs.Components.{Components}
use Rattle.std.specs.Option.{option_or}
use Rattle.custom_model.specs.Environments.{EnvironmentGiven}
use Rattle.custom_model.specs.NamedValues.{NamedValues, value_named, names_of}
use Rattle.custom_model.specs.Substitution.{Entries, entry_of_reference, replacement_of_fallback}
use Rattle.custom_props.specs.Views.{values_view}
use Rattle.custom_props.specs.inner.EntryViews.{entry_in}
use Rattle.custom_props.specs.inner.Places.{place_of}
use Rattle.custom_props.specs.declared.entry.Entry.{Entry}
use Rattle.custom_props.specs.declared.known.Known.{Known}

-- the entry of a name, where this is its place among the declared ones
abbrev pub entry_at : NamedValues → List Entry → Text → Option ℕ → Option Components
entry_at inherited table name (Some i) = entry_in table i
entry_at inherited table name None = value_named inherited name

-- the entries, where the declared names have those of a table
abbrev pub entries_among : EnvironmentGiven → List Entry → Entries
entries_among g table name = entry_at g.inherited table name (place_of name (names_of g.declared))

abbrev pub given_to : Known → EnvironmentGiven
given_to k = record { declared = values_view k.declared.now; inherited = values_view k.inherited.now }

abbrev pub entries_of : Known → Entries
entries_of k name = entries_among (given_to k) k.table.now name

-- what stands in place of a `var()` with these contents
abbrev pub var_replacement : Entries → Components → Option Components
var_replacement entries contents =
    option_or (entry_of_reference entries contents) (replacement_of_fallback entries contents)
