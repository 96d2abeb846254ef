-- The entries of declared names by their places, while they are found.
use Rattle.std.specs.Prelude.{◌≡◌, ◌⊎◌, ℕ, ◌<◌, ◌≤◌, List, length, slice_set, Some, true}
use Rattle.css_model.specs.Classes.{Text}
use Rattle.css_model.specs.Components.{Components}
use Rattle.custom_model.specs.Environments.{EnvironmentGiven, entry_of_declared}
use Rattle.custom_model.specs.NamedValues.{names_of, value_named}
use Rattle.custom_props.specs.inner.Entries.{entries_among}
use Rattle.custom_props.specs.inner.EntryViews.{entry_in, entry_view}
use Rattle.custom_props.specs.inner.Graphs.{IsIn, Leads, graph_of, is_marked}
use Rattle.custom_props.specs.inner.Places.{place_of}
use Rattle.custom_props.specs.declared.entry.Entry.{Entry}
use Rattle.custom_props.specs.declared.table.Table.{Table}

-- a declared name in this place leads back to itself
abbrev pub LeadsBack : EnvironmentGiven → ℕ → Type 0
LeadsBack g x = Leads (graph_of g.declared) x x

-- an entry is the one of the name in this place, where the others are those of a table
abbrev pub IsEntryAt : EnvironmentGiven → List Entry → ℕ → Entry → Type 0
IsEntryAt g entries x entry =
    (name : Text) → (value : Components) → place_of name (names_of g.declared) ≡ Some x
    → value_named g.declared name ≡ Some value
    → entry_view entry ≡ entry_of_declared (entries_among g entries) (value_named g.inherited name) value

-- the entries of names on a cycle, and those of the places that were come to
pub record IsFilled (g : EnvironmentGiven) (front : List ℕ) (entries : List Entry) : Type 0 where
  pub same_length : length entries ≡ length g.declared
  pub on_cycle : (name : Text) (x : ℕ) → place_of name (names_of g.declared) ≡ Some x → LeadsBack g x
      → entry_in entries x ≡ value_named g.inherited name
  pub off_cycle : (name : Text) (x : ℕ) (value : Components) → place_of name (names_of g.declared) ≡ Some x
      → IsIn x front → value_named g.declared name ≡ Some value → (LeadsBack g x → ⊥)
      → entry_in entries x ≡ entry_of_declared (entries_among g entries) (value_named g.inherited name) value

-- the same, with marks at places off every cycle
pub record IsFilling (g : EnvironmentGiven) (front : List ℕ) (table : Table) : Type 0 where
  pub filled : IsFilled g front table.entries
  pub same_length : length table.off_cycles ≡ length g.declared
  pub marked : (x : ℕ) → is_marked table.off_cycles x ≡ true → LeadsBack g x → ⊥

-- the entries of all declared names
abbrev pub IsTable : EnvironmentGiven → List Entry → Type 0
IsTable g entries = (front : List ℕ) × ((x : ℕ) → x < length g.declared → IsIn x front) × IsFilled g front entries

-- the entry of the name in a place is put, unless the name is on a cycle
abbrev pub Fills : EnvironmentGiven → ℕ → Table → Table → Type 0
Fills g x table table' =
    (((length g.declared ≤ x) ⊎ LeadsBack g x) × (table' ≡ table))
    ⊎ ((x < length g.declared) × (LeadsBack g x → ⊥)
    × (entry : Entry) × IsEntryAt g table.entries x entry
    × (table'.entries ≡ slice_set table.entries x entry)
    × (table'.off_cycles ≡ slice_set table.off_cycles x true))
