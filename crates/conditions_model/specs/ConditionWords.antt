-- What a condition is written with: parts and words (Media Queries 4, section 3).
use Rattle.std.specs.Prelude.{if◌then◌else◌, List, [], ◌∷◌, codes, Option, Some, None, option_map, Bool}
use Rattle.std.specs.Str.{str_eq_ignore_ascii_case}
use Rattle.std.specs.Option.{option_or}
use Rattle.css_model.specs.Classes.{Text}
use Rattle.conditions_model.specs.ConditionTrees.{ConditionTree, negation, all_of, any_of, ConditionTrees, no_conditions, condition}

-- a part (a pair of round brackets or a function, with its condition), an identifier, or what is neither
pub data Word (Q : Type 0) : Type 0 where
  part : ConditionTree Q → Word Q
  ident : Text → Word Q
  other_word : Word Q

-- this keyword, in any case
abbrev pub is_keyword : Text → Text → Bool
is_keyword keyword name = str_eq_ignore_ascii_case name keyword

-- ---- the grammar of conditions, over words

-- `[ and <part> ]*`, or the same with `or`, and no more
abbrev pub more_parts : {Q : Type 0} → Text → List (Word Q) → Option (ConditionTrees Q)
more_parts keyword [] = Some no_conditions
more_parts keyword (ident name ∷ part c ∷ ws) =
    if is_keyword keyword name then option_map (condition c) (more_parts keyword ws) else None
more_parts keyword other = None

-- one part by itself is that part
abbrev pub joined_by : {Q : Type 0} → (ConditionTrees Q → ConditionTree Q) → ConditionTree Q → ConditionTrees Q → ConditionTree Q
joined_by join c no_conditions = c
joined_by join c (condition d ds) = join (condition c (condition d ds))

-- `not <part>`
abbrev pub not_condition : {Q : Type 0} → List (Word Q) → Option (ConditionTree Q)
not_condition (ident name ∷ part c ∷ []) = if is_keyword (codes "not") name then Some (negation c) else None
not_condition other = None

-- `<part> [ and <part> ]*`
abbrev pub and_condition : {Q : Type 0} → List (Word Q) → Option (ConditionTree Q)
and_condition (part c ∷ ws) = option_map (joined_by all_of c) (more_parts (codes "and") ws)
and_condition other = None

-- `<part> [ or <part> ]*`
abbrev pub or_condition : {Q : Type 0} → List (Word Q) → Option (ConditionTree Q)
or_condition (part c ∷ ws) = option_map (joined_by any_of c) (more_parts (codes "or") ws)
or_condition other = None

-- `<media-condition-without-or>`
abbrev pub condition_without_or : {Q : Type 0} → List (Word Q) → Option (ConditionTree Q)
condition_without_or ws = option_or (not_condition ws) (and_condition ws)

-- `<media-condition>`
abbrev pub condition_of_words : {Q : Type 0} → List (Word Q) → Option (ConditionTree Q)
condition_of_words ws = option_or (condition_without_or ws) (or_condition ws)
