-- For each property, the declaration that wins.
use Rattle.std.specs.Prelude.{◌≡◌, get_or, List, [], ◌∷◌, ◌++◌, Option, None, option_map}
use Rattle.value_model.specs.declared.prop.Prop.{Prop}
use Rattle.value_model.specs.Properties.{prop_place}
use Rattle.cascade_model.specs.Applied as model
use Rattle.cascade_model.specs.Kept.{of_property}
use Rattle.cascade_model.specs.Order.{winner}
use Rattle.cascade_core.specs.AppliedViews.{applied_view}
use Rattle.cascade_core.specs.declared.applied.Applied.{Applied}

abbrev pub entry : List (Option Applied) → Prop → Option Applied
entry entries p = get_or entries (prop_place p) None

-- each is the winner of these declarations
abbrev pub IsTable : List (Option Applied) → List model.Applied → Type 0
IsTable entries ds =
    (p : Prop) → option_map (applied_view (of_property p)) (entry entries p) ≡ winner (of_property p) ds

-- winners of declarations before, and then of those with one more at the end
abbrev pub Offers : List (Option Applied) → List (Option Applied) → model.Applied → Type 0
Offers old new later = (ds : List model.Applied) → IsTable old ds → IsTable new (ds ++ later ∷ [])
