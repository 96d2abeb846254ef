-- Names with values in order, and one more.
use Rattle.std.specs.Prelude.{[], ◌∷◌, ◌++◌, if◌then◌else◌, Bool}
use Rattle.std.specs.List.{list_all}
use Rattle.css_model.specs.Classes.{Text}
use Rattle.css_model.specs.Components.{Components}
use Rattle.page_model.specs.Attributes.{is_less_text}
use Rattle.custom_model.specs.NamedValues.{NamedValues}

-- each name is less than this one
abbrev pub are_before : Text → NamedValues → Bool
are_before name values = list_all (λ v. is_less_text v.0 name) values

-- with this one at the end, if it is appended
abbrev pub with_last : Bool → Text → Components → NamedValues → NamedValues
with_last appended name value values = if appended then values ++ (name, value) ∷ [] else values
