-- The declarations of rules that match.
use Rattle.std.specs.Prelude.{ℕ, List, [], ◌∷◌, ◌++◌, Option, Some, false}
use Rattle.std.specs.List.{slice_get}
use Rattle.conditions_model.specs.declared.tri.Tri.{Tri}
use Rattle.conditions_model.specs.declared.tri.Tri.TheVariants.{Yes}
use Rattle.selectors_model.specs.declared.spec.Spec.{Spec}
use Rattle.cascade_model.specs.Applied as model
use Rattle.cascade_core.specs.AppliedViews.{all_placed}
use Rattle.cascade_core.specs.Views.{all_kept_view}
use Rattle.cascade_core.specs.declared.applied.Place.{Place}
use Rattle.cascade_core.specs.declared.rule_body.RuleBody.{RuleBody}

abbrev pub place_of : RuleBody → Spec → Place
place_of body spec = record { origin = body.origin; in_attribute = false; specificity = spec }

abbrev pub applied_of_body : Option RuleBody → Spec → Tri → List model.Applied
applied_of_body (Some body) spec Yes = all_placed (place_of body spec) (all_kept_view body.declarations)
applied_of_body body spec answer = []

-- of one rule
abbrev pub applied_at : List RuleBody → ℕ → Spec → Tri → List model.Applied
applied_at bodies number spec answer = applied_of_body (slice_get bodies number) spec answer

-- of each
abbrev pub applied_at_all : List RuleBody → List (ℕ × Spec) → List Tri → List model.Applied
applied_at_all bodies (pair ∷ pairs) (answer ∷ answers) =
    applied_at bodies pair.0 pair.1 answer ++ applied_at_all bodies pairs answers
applied_at_all bodies pairs answers = []
