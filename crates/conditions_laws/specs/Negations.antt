-- The negations of conditions, one by one.
use Rattle.conditions_model.specs.ConditionTrees.{ConditionTrees, no_conditions, condition, negation}

abbrev pub negations : {Q : Type 0} → ConditionTrees Q → ConditionTrees Q
negations no_conditions = no_conditions
negations (condition c cs) = condition (negation c) (negations cs)
