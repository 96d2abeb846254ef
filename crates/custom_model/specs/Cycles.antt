-- References between custom properties, and names on a cycle (CSS Custom Properties 1, section 2.3).
use Rattle.std.specs.Prelude.{◌≡◌, List, [], option_map, unwrap_or, Bool, true}
use Rattle.std.specs.List.{list_any}
use Rattle.css_model.specs.Classes.{Text}
use Rattle.page_model.specs.Attributes.{is_same_text}
use Rattle.custom_model.specs.NamedValues.{NamedValues, value_named}
use Rattle.custom_model.specs.References.{names_in}

-- the names that the value of a name refers to; a name without a value refers to none
abbrev pub references_of : NamedValues → Text → List Text
references_of declared name = unwrap_or (option_map names_in (value_named declared name)) []

abbrev pub refers : NamedValues → Text → Text → Bool
refers declared from to = list_any (is_same_text to) (references_of declared from)

-- a name is reached from another: that one refers to it, or refers to one from which it is reached
pub data IsReached (declared : NamedValues) : Text → Text → Type 0 where
  directly : {from to : Text} → refers declared from to ≡ true → IsReached declared from to
  through : {from to : Text} → (via : Text) → refers declared from via ≡ true
      → IsReached declared via to → IsReached declared from to

-- a name is on a cycle if it is reached from itself
abbrev pub IsOnCycle : NamedValues → Text → Type 0
IsOnCycle declared name = IsReached declared name name
