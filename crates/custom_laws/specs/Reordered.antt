-- Declared values in another order.
use Rattle.std.specs.Prelude.{◌≡◌, ◌⊎◌, ◌↔◌, List, [], ◌∷◌, false}
use Rattle.std.specs.List.{list_any}
use Rattle.css_model.specs.Classes.{Text}
use Rattle.css_model.specs.Components.{Components}
use Rattle.page_model.specs.Attributes.{is_same_text}
use Rattle.custom_model.specs.NamedValues.{NamedValues, names_of}

-- a name with its value stands in a list
abbrev pub IsAmong : Text × Components → NamedValues → Type 0
IsAmong v [] = ⊥
IsAmong v (w ∷ values) = (v ≡ w) ⊎ IsAmong v values

-- no name stands twice
abbrev pub AreDistinct : List Text → Type 0
AreDistinct [] = Unit {0}
AreDistinct (n ∷ names) = (list_any (is_same_text n) names ≡ false) × AreDistinct names

-- two lists of distinct names have the same values, in any order
pub record AreReordered (values others : NamedValues) : Type 0 where
  pub distinct_first : AreDistinct (names_of values)
  pub distinct_second : AreDistinct (names_of others)
  pub same : (v : Text × Components) → IsAmong v values ↔ IsAmong v others
