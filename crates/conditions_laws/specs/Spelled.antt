-- How conditions are written, by joined lists (Media Queries 4, section 3).
use Rattle.std.specs.Prelude.{◌≡◌, ◌⊎◌, List, [], ◌∷◌, codes, true}
use Rattle.css_model.specs.Classes.{Text}
use Rattle.conditions_model.specs.ConditionTrees.{ConditionTree, negation, all_of, any_of, ConditionTrees, no_conditions, condition}
use Rattle.conditions_model.specs.ConditionWords.{Word, part, ident, is_keyword}

-- the keyword before each of these parts
abbrev pub AreJoined : {Q : Type 0} → Text → List (Word Q) → ConditionTrees Q → Type 0
AreJoined keyword [] no_conditions = Unit {0}
AreJoined keyword (ident name ∷ part c ∷ ws) (condition d ds) =
    (is_keyword keyword name ≡ true) × (c ≡ d) × AreJoined keyword ws ds
AreJoined keyword ws cs = ⊥

-- `not` and a part
pub record IsNegation {Q : Type 0} (ws : List (Word Q)) (c : ConditionTree Q) : Type 0 where
  pub name : Text
  pub negated : ConditionTree Q
  pub joined : ws ≡ ident name ∷ part negated ∷ []
  pub is_not : is_keyword (codes "not") name ≡ true
  pub is_negation : c ≡ negation negated

-- two parts or more, with this keyword between them
pub record IsJoined {Q : Type 0} (keyword : Text) (join : ConditionTrees Q → ConditionTree Q) (ws : List (Word Q)) (c : ConditionTree Q) : Type 0 where
  pub first : ConditionTree Q
  pub second : ConditionTree Q
  pub others : ConditionTrees Q
  pub rest : List (Word Q)
  pub joined : ws ≡ part first ∷ rest
  pub are_joined : AreJoined keyword rest (condition second others)
  pub is_joined : c ≡ join (condition first (condition second others))

-- these words are this condition
abbrev pub IsCondition : {Q : Type 0} → List (Word Q) → ConditionTree Q → Type 0
IsCondition ws c = (ws ≡ part c ∷ []) ⊎ (IsNegation ws c
    ⊎ (IsJoined (codes "and") all_of ws c ⊎ IsJoined (codes "or") any_of ws c))
