-- Rules that were found so far, and the conditions around them.
use Rattle.std.specs.Prelude.{◌≡◌, ℕ, ◌≤◌, ◌<◌, List, [], ◌∷◌, ◌++◌, length, map, Option, Some, None}
use Rattle.std.specs.Option.{is_none}
use Rattle.css_model.specs.Components.{Component, Components}
use Rattle.rules_model.specs.declared.conditional_rule.ConditionalRule.{ConditionalRule}
use Rattle.rules_model.specs.ComponentLists.{ends_at_rule, contents_of, before, trimmed}
use Rattle.rules_model.specs.Declarations.{declarations_of}
use Rattle.rules_model.specs.Rules as model
use Rattle.rules_model.specs.Rules.{Condition, is_top_level, style_rule, rules_in, rules_in_block}
use Rattle.css_rules.specs.declared.rules.Found.{Found}
use Rattle.css_rules.specs.declared.sheet.StyleRule.{StyleRule}
use Rattle.css_rules.specs.Views.{conditions_at, condition_lists, rule_view}
use Rattle.css_rules.specs.inner.Reading.{total}

-- the conditions up to the one in a place
abbrev pub around_of : Found → Option ℕ → List Condition
around_of f place = conditions_at (condition_lists f.conditions) place

abbrev pub rules_found : Found → List model.StyleRule
rules_found f = map (rule_view (condition_lists f.conditions)) f.rules

-- ---- places

-- one of so many places, or none
abbrev pub IsPlace : ℕ → Option ℕ → Type 0
IsPlace n None = Unit {0}
IsPlace n (Some place) = place < n

abbrev pub ArePlaces : ℕ → List StyleRule → Type 0
ArePlaces n [] = Unit {0}
ArePlaces n (r ∷ rules) = IsPlace n r.around × ArePlaces n rules

-- what was found is in place, and so is the condition around what will be found
pub record IsInside (f : Found) (around : Option ℕ) : Type 0 where
  pub places : ArePlaces (length f.conditions) f.rules
  pub place : IsPlace (length f.conditions) around
  pub top : is_top_level (around_of f around) ≡ is_none around

-- ---- what is found

-- these rules were found behind the others, and no conditions were lost
pub record Adds (old new : Found) (added : List model.StyleRule) : Type 0 where
  pub more : length old.conditions ≤ length new.conditions
  pub places : ArePlaces (length new.conditions) new.rules
  pub same : (place : Option ℕ) → IsPlace (length old.conditions) place
      → around_of new place ≡ around_of old place
  pub rules : rules_found new ≡ rules_found old ++ added

-- the rules from the front of all were found, and these are left
pub record Takes (old new : Found) (around : List Condition) (all rest : Components) : Type 0 where
  pub added : List model.StyleRule
  pub adds : Adds old new added
  pub joined : rules_in around all ≡ added ++ rules_in around rest
  pub less : total rest < total all

-- the conditions around what is in the block of an at-rule, where this is behind its keyword
abbrev pub conditions_with : List Condition → ConditionalRule → Components → List Condition
conditions_with around at_rule cs =
    around ++ (record { at_rule = at_rule; prelude = trimmed (before ends_at_rule cs) } ∷ [])

-- the rules in an at-rule with this end
abbrev pub block_rules : Option (List Condition) → Option Component → List model.StyleRule
block_rules inside None = []
block_rules inside (Some c) = rules_in_block inside c

-- the rule of this prelude, whose ends are trimmed, and this block
abbrev pub rule_of : List Condition → Components → Component → model.StyleRule
rule_of around prelude block = record {
  prelude = prelude;
  conditions = around;
  declarations = declarations_of (contents_of block);
}

-- the rule of this prelude, if it has a block
abbrev pub qualified_rules : List Condition → Components → Option Component → List model.StyleRule
qualified_rules around prelude None = []
qualified_rules around prelude (Some block) = style_rule around prelude block ∷ []
