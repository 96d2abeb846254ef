-- Conditions as trees, for features of any kind, and their values (Media Queries 4, section 3).
use Rattle.conditions_model.specs.declared.tri.Tri.{Tri}
use Rattle.conditions_model.specs.declared.tri.Tri.TheVariants.{Yes, No, Unknown}
use Rattle.conditions_model.specs.TriTables.{tri_not, tri_and, tri_or}

-- a condition whose features are of this type
mutual
  pub data ConditionTree (Q : Type 0) : Type 0 where
    feature : Q → ConditionTree Q
    -- what is in the grammar for the sake of later features alone: `<general-enclosed>`
    enclosed : ConditionTree Q
    negation : ConditionTree Q → ConditionTree Q
    all_of : ConditionTrees Q → ConditionTree Q
    any_of : ConditionTrees Q → ConditionTree Q

  pub data ConditionTrees (Q : Type 0) : Type 0 where
    no_conditions : ConditionTrees Q
    condition : ConditionTree Q → ConditionTrees Q → ConditionTrees Q

-- the value of a condition, where `judge` gives that of each feature
abbrev mutual
  pub condition_value : {Q : Type 0} → (Q → Tri) → ConditionTree Q → Tri
  condition_value judge (feature q) = judge q
  condition_value judge enclosed = Unknown
  condition_value judge (negation c) = tri_not (condition_value judge c)
  condition_value judge (all_of cs) = all_value judge cs
  condition_value judge (any_of cs) = any_value judge cs

  pub all_value : {Q : Type 0} → (Q → Tri) → ConditionTrees Q → Tri
  all_value judge no_conditions = Yes
  all_value judge (condition c cs) = tri_and (condition_value judge c) (all_value judge cs)

  pub any_value : {Q : Type 0} → (Q → Tri) → ConditionTrees Q → Tri
  any_value judge no_conditions = No
  any_value judge (condition c cs) = tri_or (condition_value judge c) (any_value judge cs)
