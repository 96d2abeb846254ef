-- Values of conditions.
use Rattle.std.proofs.Common.{◌≡◌, ◌∙◌, ap, refl, true}
use Rattle.conditions_model.specs.declared.tri.Tri.{Tri}
use Rattle.conditions_model.specs.TriTables.{tri_not, tri_and, tri_or}
use Rattle.conditions_model.specs.ConditionTrees.{ConditionTree, feature, enclosed, negation, all_of, any_of, ConditionTrees, no_conditions, condition, condition_value, all_value, any_value}
use Rattle.conditions_laws.specs.Known.{is_known, HasNoEnclosed, HaveNoEnclosed}
use Rattle.conditions_laws.specs.Negations.{negations}
use Rattle.conditions_laws.proofs.Tables.{not-not, not-and, not-or, known-and, known-or, known-not}

pub not-all : {Q : Type 0} (judge : Q → Tri) (cs : ConditionTrees Q)
    → condition_value judge (negation (all_of cs)) ≡ condition_value judge (any_of (negations cs))
not-all judge no_conditions = refl
not-all judge (condition c cs) =
    not-and (condition_value judge c) (all_value judge cs) ∙ ap (tri_or (tri_not (condition_value judge c))) (not-all judge cs)

pub not-any : {Q : Type 0} (judge : Q → Tri) (cs : ConditionTrees Q)
    → condition_value judge (negation (any_of cs)) ≡ condition_value judge (all_of (negations cs))
not-any judge no_conditions = refl
not-any judge (condition c cs) =
    not-or (condition_value judge c) (any_value judge cs) ∙ ap (tri_and (tri_not (condition_value judge c))) (not-any judge cs)

pub twice : {Q : Type 0} (judge : Q → Tri) (c : ConditionTree Q)
    → condition_value judge (negation (negation c)) ≡ condition_value judge c
twice judge c = not-not (condition_value judge c)

mutual
  pub known-condition : {Q : Type 0} (judge : Q → Tri) → ((q : Q) → is_known (judge q) ≡ true)
      → (c : ConditionTree Q) → HasNoEnclosed c → is_known (condition_value judge c) ≡ true
  known-condition judge k (feature q) h = k q
  known-condition judge k enclosed h = absurd h
  known-condition judge k (negation c) h = known-not (condition_value judge c) (known-condition judge k c h)
  known-condition judge k (all_of cs) h = known-all judge k cs h
  known-condition judge k (any_of cs) h = known-any judge k cs h

  known-all : {Q : Type 0} (judge : Q → Tri) → ((q : Q) → is_known (judge q) ≡ true)
      → (cs : ConditionTrees Q) → HaveNoEnclosed cs → is_known (all_value judge cs) ≡ true
  known-all judge k no_conditions h = refl
  known-all judge k (condition c cs) h = known-and (condition_value judge c) (all_value judge cs)
      (known-condition judge k c h.0) (known-all judge k cs h.1)

  known-any : {Q : Type 0} (judge : Q → Tri) → ((q : Q) → is_known (judge q) ≡ true)
      → (cs : ConditionTrees Q) → HaveNoEnclosed cs → is_known (any_value judge cs) ≡ true
  known-any judge k no_conditions h = refl
  known-any judge k (condition c cs) h = known-or (condition_value judge c) (any_value judge cs)
      (known-condition judge k c h.0) (known-any judge k cs h.1)
