-- One value for each of four sides.
use Rattle.std.proofs.Common.{◌≡◌, refl, List, [], ◌∷◌, option_and_then}
use Rattle.css_model.specs.Components.{Component}
use Rattle.value_model.specs.declared.prop.Prop.{Prop}
use Rattle.value_model.specs.Shorthands.{each_of_four, each_of_four_values}
use Rattle.prop_table.specs.inner.SideWords.{four_of}

-- the values are those of the words of the sides
pub each_of_four-is : (t r b l : Prop) (words : List Component)
    → option_and_then (λ q. each_of_four_values t r b l q.0 q.1 q.2 q.3) (four_of words) ≡ each_of_four t r b l words
each_of_four-is t r b l [] = refl
each_of_four-is t r b l (w ∷ []) = refl
each_of_four-is t r b l (w ∷ x ∷ []) = refl
each_of_four-is t r b l (w ∷ x ∷ y ∷ []) = refl
each_of_four-is t r b l (w ∷ x ∷ y ∷ z ∷ []) = refl
each_of_four-is t r b l (w ∷ x ∷ y ∷ z ∷ more ∷ words) = refl
