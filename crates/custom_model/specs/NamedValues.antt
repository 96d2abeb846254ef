-- Names of custom properties with component values: what an element declares, and its environment.
use Rattle.std.specs.Prelude.{◌&&◌, List, [], ◌∷◌, map, Option, Bool, true}
use Rattle.std.specs.Map.{lookup}
use Rattle.css_model.specs.Classes.{Text}
use Rattle.css_model.specs.Components.{Components}
use Rattle.page_model.specs.Attributes.{is_less_text, is_same_text}

abbrev pub NamedValues : Type 0
NamedValues = List (Text × Components)

-- the value of a name, if it has one; names compare exactly
abbrev pub value_named : NamedValues → Text → Option Components
value_named values name = lookup (is_same_text name) values

abbrev pub names_of : NamedValues → List Text
names_of values = map (λ v. v.0) values

-- each name is less than the next, by code points
abbrev pub are_in_order : List Text → Bool
are_in_order [] = true
are_in_order (n ∷ []) = true
are_in_order (n ∷ m ∷ names) = is_less_text n m && are_in_order (m ∷ names)
