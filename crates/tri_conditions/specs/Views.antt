-- Which condition of the definitions this is.
use Rattle.std.specs.Prelude.{List, [], ◌∷◌, map}
use Rattle.conditions_model.specs.ConditionTrees.{ConditionTree, feature, enclosed, negation, all_of, any_of, ConditionTrees, no_conditions, condition}
use Rattle.tri_conditions.specs.declared.condition.Condition.{Condition, fold-Condition}
use Rattle.tri_conditions.specs.declared.condition.Condition.TheOpen.{Condition-F}

-- conditions of the definition, as it lists them
abbrev pub listed : {Q : Type 0} → List (ConditionTree Q) → ConditionTrees Q
listed [] = no_conditions
listed (c ∷ cs) = condition c (listed cs)

-- one level, with each condition in it already seen as one of the definition
abbrev pub condition_step : {Q : Type 0} → Condition-F Q (ConditionTree Q) → ConditionTree Q
condition_step (Condition-F.Feature q) = feature q
condition_step Condition-F.Enclosed = enclosed
condition_step (Condition-F.Not c) = negation c
condition_step (Condition-F.All cs) = all_of (listed cs)
condition_step (Condition-F.Any cs) = any_of (listed cs)

abbrev pub condition_view : {Q : Type 0} → Condition Q → ConditionTree Q
condition_view {Q} = fold-Condition Q (ConditionTree Q) condition_step

abbrev pub conditions_view : {Q : Type 0} → List (Condition Q) → ConditionTrees Q
conditions_view cs = listed (map condition_view cs)
