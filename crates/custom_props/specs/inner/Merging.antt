-- Entries of names, and those inherited of other names, in order of name.
use Rattle.std.specs.Prelude.{List, [], ◌∷◌, ◌++◌, if◌then◌else◌, Option, None}
use Rattle.css_model.specs.Classes.{Text}
use Rattle.css_model.specs.Components.{Components}
use Rattle.page_model.specs.Attributes.{is_less_text, is_same_text}
use Rattle.custom_model.specs.NamedValues.{NamedValues}
use Rattle.custom_model.specs.inner.Finding.{with_entry}
use Rattle.custom_props.specs.inner.EntryViews.{entry_view}
use Rattle.custom_props.specs.declared.entry.Entry.{Entry}

-- names with their entries, if they have any
abbrev pub NamedEntries : Type 0
NamedEntries = List (Text × Option Components)

-- the entries of a table
abbrev pub named_entries : NamedValues → List Entry → NamedEntries
named_entries [] table = []
named_entries (v ∷ values) [] = (v.0, None) ∷ named_entries values []
named_entries (v ∷ values) (e ∷ table) = (v.0, entry_view e) ∷ named_entries values table

-- the values of names that are less than this one
abbrev pub before : Text → NamedValues → NamedValues
before name [] = []
before name (v ∷ values) = if is_less_text v.0 name then v ∷ before name values else []

-- and of those that are more
abbrev pub after : Text → NamedValues → NamedValues
after name [] = []
after name (v ∷ values) =
    if is_same_text v.0 name then values
    else if is_less_text v.0 name then after name values else v ∷ values

abbrev pub merged : NamedEntries → NamedValues → NamedValues
merged [] inherited = inherited
merged (e ∷ entries) inherited =
    before e.0 inherited ++ with_entry e.0 e.1 (merged entries (after e.0 inherited))
