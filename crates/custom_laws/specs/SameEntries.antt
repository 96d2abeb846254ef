-- What entries have in common: the same for some names, or no `var()`.
use Rattle.std.specs.Prelude.{◌≡◌, List, Some, true, false}
use Rattle.std.specs.List.{list_any}
use Rattle.css_model.specs.Classes.{Text}
use Rattle.css_model.specs.Components.{Components}
use Rattle.page_model.specs.Attributes.{is_same_text}
use Rattle.custom_model.specs.References.{has_var}
use Rattle.custom_model.specs.Substitution.{Entries}

-- the same stands for each of these names
abbrev pub AreSameOn : Entries → Entries → List Text → Type 0
AreSameOn entries others names =
    (name : Text) → list_any (is_same_text name) names ≡ true → entries name ≡ others name

-- no entry has a `var()`
abbrev pub AreWithoutVar : Entries → Type 0
AreWithoutVar entries = (name : Text) (value : Components) → entries name ≡ Some value → has_var value ≡ false
