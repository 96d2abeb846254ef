-- Answers to the conditions of rules, by their numbers.
use Rattle.std.specs.Prelude.{ℕ, List, map, Option, Some, None}
use Rattle.std.specs.List.{slice_get}
use Rattle.page_model.specs.declared.viewport.Viewport.{Viewport}
use Rattle.conditions_model.specs.declared.tri.Tri.{Tri}
use Rattle.conditions_model.specs.declared.tri.Tri.TheVariants.{Yes}
use Rattle.selectors_model.specs.declared.spec.Spec.{Spec}
use Rattle.cascade_model.specs.Answers as model
use Rattle.cascade_core.specs.Views.{media_view}
use Rattle.cascade_core.specs.declared.rule_body.RuleBody.{RuleBody}

abbrev pub answer_of_body : Viewport → Option RuleBody → Tri
answer_of_body v None = Yes
answer_of_body v (Some body) = model.answer_to v (media_view body.media)

-- of the rule of this number
abbrev pub answer_at : Viewport → List RuleBody → ℕ → Tri
answer_at v bodies number = answer_of_body v (slice_get bodies number)

-- of each
abbrev pub answers_at : Viewport → List RuleBody → List (ℕ × Spec) → List Tri
answers_at v bodies pairs = map (λ pair. answer_at v bodies pair.0) pairs
