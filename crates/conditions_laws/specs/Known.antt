-- Values that are known, and conditions without parts that are not.
use Rattle.std.specs.Prelude.{Bool, true, false}
use Rattle.conditions_model.specs.declared.tri.Tri.{Tri}
use Rattle.conditions_model.specs.declared.tri.Tri.TheVariants.{Yes, No, Unknown}
use Rattle.conditions_model.specs.ConditionTrees.{ConditionTree, feature, enclosed, negation, all_of, any_of, ConditionTrees, no_conditions, condition}

-- Yes or No
abbrev pub is_known : Tri → Bool
is_known Yes = true
is_known No = true
is_known Unknown = false

-- no part of a condition is an enclosed one
abbrev mutual
  pub HasNoEnclosed : {Q : Type 0} → ConditionTree Q → Type 0
  HasNoEnclosed (feature q) = Unit {0}
  HasNoEnclosed enclosed = ⊥
  HasNoEnclosed (negation c) = HasNoEnclosed c
  HasNoEnclosed (all_of cs) = HaveNoEnclosed cs
  HasNoEnclosed (any_of cs) = HaveNoEnclosed cs

  pub HaveNoEnclosed : {Q : Type 0} → ConditionTrees Q → Type 0
  HaveNoEnclosed no_conditions = Unit {0}
  HaveNoEnclosed (condition c cs) = HasNoEnclosed c × HaveNoEnclosed cs
