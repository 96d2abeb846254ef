-- For each custom property that is declared, the declaration that wins, in order of name.
use Rattle.std.specs.Prelude.{◌≡◌, ℕ, suc, if◌then◌else◌, List, [], ◌∷◌, map, Option, Some, None, option_map, Bool, true, false}
use Rattle.std.specs.List.{slice_get}
use Rattle.std.specs.Option.{option_map_or}
use Rattle.css_model.specs.Classes.{Text}
use Rattle.custom_model.specs.NamedValues.{NamedValues, are_in_order}
use Rattle.custom_model.specs.inner.Finding.{with_entry}
use Rattle.page_model.specs.Attributes.{is_less_text, is_same_text}
use Rattle.cascade_model.specs.Applied as model
use Rattle.cascade_model.specs.Cascaded.{components_of_value}
use Rattle.cascade_model.specs.Kept.{of_custom}
use Rattle.cascade_model.specs.Order.{winner}
use Rattle.cascade_core.specs.AppliedViews.{applied_view}
use Rattle.cascade_core.specs.Views.{kept_value_view}
use Rattle.cascade_core.specs.declared.applied.Applied.{Applied}
use Rattle.cascade_core.specs.declared.customs.CustomWinner.{CustomWinner}
use Rattle.cascade_core.specs.inner.Strength.{yields}

abbrev pub name_of : CustomWinner → Text
name_of w = w.name.value

abbrev pub names : List CustomWinner → List Text
names entries = map name_of entries

-- the declaration that wins for a name
abbrev pub found : List CustomWinner → Text → Option Applied
found [] name = None
found (w ∷ entries) name = if is_same_text name (name_of w) then Some w.applied else found entries name

-- each is the winner of these declarations
pub record AreCustoms (entries : List CustomWinner) (ds : List model.Applied) : Type 0 where
  pub in_order : are_in_order (names entries) ≡ true
  pub winners : (name : Text) → option_map (applied_view (of_custom name)) (found entries name) ≡ winner (of_custom name) ds

-- ---- one more declaration

-- how many names at the front are less
abbrev pub less_count : Text → List Text → ℕ
less_count name [] = 0
less_count name (n ∷ names) = if is_less_text n name then suc (less_count name names) else 0

-- whether the name stands in this place
abbrev pub stands_at : ℕ → Text → List CustomWinner → Bool
stands_at i name entries = option_map_or (λ w. is_same_text name (name_of w)) (slice_get entries i) false

-- the one that wins of two of the same name
abbrev pub later_of : CustomWinner → CustomWinner → CustomWinner
later_of best later = if yields (Some best.applied) later.applied then later else best

-- with a declaration that appears later than all before it
abbrev pub offered : CustomWinner → List CustomWinner → List CustomWinner
offered later [] = later ∷ []
offered later (w ∷ entries) =
    if is_less_text (name_of w) (name_of later) then w ∷ offered later entries
    else if is_same_text (name_of later) (name_of w) then later_of w later ∷ entries
    else later ∷ w ∷ entries

-- ---- all of them

-- the names with the component values that win
abbrev pub custom_values : List CustomWinner → NamedValues
custom_values [] = []
custom_values (w ∷ entries) =
    with_entry (name_of w) (components_of_value (kept_value_view w.applied.value.value)) (custom_values entries)
