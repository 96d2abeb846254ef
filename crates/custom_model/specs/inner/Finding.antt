-- Cycles and environments found by computing. What they are is said in Cycles and Environments, and
-- laws say that these are they (`custom_laws`).
use Rattle.std.specs.Prelude.{ℕ, zero, suc, ◌&&◌, ◌||◌, if◌then◌else◌, List, [], ◌∷◌, ◌++◌, length, Option, Some, None, Bool}
use Rattle.css_model.specs.Classes.{Text}
use Rattle.css_model.specs.Components.{Components}
use Rattle.page_model.specs.Attributes.{is_less_text, is_same_text}
use Rattle.custom_model.specs.Cycles.{refers}
use Rattle.custom_model.specs.Environments.{EnvironmentGiven, entry_of_declared}
use Rattle.custom_model.specs.NamedValues.{NamedValues, value_named, names_of}
use Rattle.custom_model.specs.Substitution.{Entries}

-- ---- cycles

-- whether a name is reached from another where all names between them are among these
abbrev pub is_reached_by : NamedValues → List Text → Text → Text → Bool
is_reached_by declared [] from to = refers declared from to
is_reached_by declared (via ∷ vias) from to =
    is_reached_by declared vias from to
    || (is_reached_by declared vias from via && is_reached_by declared vias via to)

abbrev pub is_reached : NamedValues → Text → Text → Bool
is_reached declared from to = is_reached_by declared (names_of declared) from to

abbrev pub is_on_cycle : NamedValues → Text → Bool
is_on_cycle declared name = is_reached declared name name

-- ---- entries

-- the entry of a name that has this value, or none
abbrev pub entry_of_named : Entries → Option Components → Option Components → Option Components
entry_of_named entries parent None = parent
entry_of_named entries parent (Some value) = entry_of_declared entries parent value

-- the entry of a name, by at most so many substitutions inside each other
abbrev pub entry_within : ℕ → EnvironmentGiven → Text → Option Components
entry_within zero g name = value_named g.inherited name
entry_within (suc n) g name =
    if is_on_cycle g.declared name then value_named g.inherited name
    else entry_of_named (entry_within n g) (value_named g.inherited name) (value_named g.declared name)

abbrev pub entry_of : EnvironmentGiven → Text → Option Components
entry_of g name = entry_within (suc (length g.declared)) g name

-- ---- the environment

-- with one more name in its place, unless it is there
abbrev pub with_name : Text → List Text → List Text
with_name name [] = name ∷ []
with_name name (n ∷ names) =
    if is_same_text name n then n ∷ names
    else if is_less_text name n then name ∷ n ∷ names
    else n ∷ with_name name names

-- names in order, each once
abbrev pub ordered_names : List Text → List Text
ordered_names [] = []
ordered_names (n ∷ names) = with_name n (ordered_names names)

-- an entry in front, if there is one
abbrev pub with_entry : Text → Option Components → NamedValues → NamedValues
with_entry name None values = values
with_entry name (Some value) values = (name, value) ∷ values

-- the entries of these names
abbrev pub entries_of : Entries → List Text → NamedValues
entries_of entries [] = []
entries_of entries (n ∷ names) = with_entry n (entries n) (entries_of entries names)

abbrev pub environment_of : EnvironmentGiven → NamedValues
environment_of g = entries_of (entry_of g) (ordered_names (names_of (g.declared ++ g.inherited)))
