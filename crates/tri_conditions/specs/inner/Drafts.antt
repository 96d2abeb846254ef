-- What was read of a condition, and what the words after that make of it.
use Rattle.std.specs.Prelude.{◌≡◌, if◌then◌else◌, List, [], ◌∷◌, map, codes, Option, Some, None, option_map}
use Rattle.css_model.specs.Classes.{Text}
use Rattle.conditions_model.specs.ConditionTrees.{ConditionTree, negation, all_of, any_of, ConditionTrees, condition}
use Rattle.conditions_model.specs.ConditionWords.{Word, part, is_keyword, more_parts, condition_of_words}
use Rattle.conditions_model.specs.Conditions.{words_before}
use Rattle.tri_conditions.specs.Views.{condition_view}
use Rattle.tri_conditions.specs.declared.drafts.Join.{Join}
use Rattle.tri_conditions.specs.declared.drafts.Join.TheVariants.{And, Or}
use Rattle.tri_conditions.specs.declared.drafts.Draft.{Draft}
use Rattle.tri_conditions.specs.declared.drafts.Draft.TheVariants.{Empty, Not, Whole, Part, Parts, Open, Invalid}

-- ---- keywords between parts

abbrev pub keyword_of : Join → Text
keyword_of And = codes "and"
keyword_of Or = codes "or"

-- the keyword of this name, in any case
abbrev pub join_named : Text → Option Join
join_named name =
    if is_keyword (codes "and") name then Some And
    else if is_keyword (codes "or") name then Some Or
    else None

-- the condition of parts with the keyword between them
abbrev pub joined : {Q : Type 0} → Join → ConditionTrees Q → ConditionTree Q
joined And cs = all_of cs
joined Or cs = any_of cs

-- ---- the rest of a condition

-- what is after `not`: one part
abbrev pub negated : {Q : Type 0} → List (Word Q) → Option (ConditionTree Q)
negated (part c ∷ []) = Some (negation c)
negated other = None

-- nothing more
abbrev pub nothing_after : {Q : Type 0} → ConditionTree Q → List (Word Q) → Option (ConditionTree Q)
nothing_after c [] = Some c
nothing_after c (w ∷ ws) = None

-- what is after a keyword: a part, and then more of them
abbrev pub parts_after : {Q : Type 0} → Text → List (Word Q) → Option (ConditionTrees Q)
parts_after keyword (part c ∷ ws) = option_map (condition c) (more_parts keyword ws)
parts_after keyword other = None

-- these conditions in front of others
abbrev pub in_front : {Q : Type 0} → List (ConditionTree Q) → ConditionTrees Q → ConditionTrees Q
in_front [] cs = cs
in_front (c ∷ front) cs = condition c (in_front front cs)

-- the condition of these parts and the ones after them
abbrev pub joined_with : {Q : Type 0} → Join → List (ConditionTree Q) → Option (ConditionTrees Q)
    → Option (ConditionTree Q)
joined_with join front more = option_map (λ cs. joined join (in_front front cs)) more

-- the condition of a draft and the words after it
abbrev pub condition_after : {Q : Type 0} → Draft Q → List (Word Q) → Option (ConditionTree Q)
condition_after Empty ws = condition_of_words ws
condition_after Not ws = negated ws
condition_after (Whole c) ws = nothing_after (condition_view c) ws
condition_after (Part c) ws = condition_of_words (part (condition_view c) ∷ ws)
condition_after (Parts join parts) ws =
    joined_with join (map condition_view parts) (more_parts (keyword_of join) ws)
condition_after (Open join parts) ws =
    joined_with join (map condition_view parts) (parts_after (keyword_of join) ws)
condition_after Invalid ws = None

-- one more word was taken into the draft
abbrev pub TakesWord : {Q : Type 0} → Draft Q → Word Q → Draft Q → Type 0
TakesWord {Q} old w new =
    (ws : List (Word Q)) → condition_after new ws ≡ condition_after old (w ∷ ws)

-- these words were taken into the draft
abbrev pub TakesWords : {Q : Type 0} → Draft Q → List (Word Q) → Draft Q → Type 0
TakesWords {Q} old taken new =
    (ws : List (Word Q)) → condition_after new ws ≡ condition_after old (words_before taken ws)
