-- What a list of rules consists of (CSS Syntax 3, sections 5.4.1 to 5.4.3).
use Rattle.std.specs.Prelude.{◌≡◌, ◌⊎◌, List, [], ◌∷◌, ◌++◌, flat_map, true, false}
use Rattle.std.specs.Option.{is_some}
use Rattle.css_model.specs.Components.{Component, Components, no_components, component}
use Rattle.css_model.specs.inner.Nesting.{followed}
use Rattle.rules_model.specs.ComponentLists.{ends_at_rule, at_keyword_of, is_curly_block}
use Rattle.rules_model.specs.Rules.{Condition, StyleRule, condition_of, conditions_inside, is_between_rules, rules_in_block, style_rule}
use Rattle.rules_laws.specs.Parts.{NonePass}

-- what is passed over, a whole at-rule, or a whole qualified rule
pub data RuleItem : Type 0 where
  between_rules : Component → RuleItem
  at_rule : (keyword : Component) (prelude : Components) (end : Component) → RuleItem
  qualified_rule : (prelude : Components) (block : Component) → RuleItem

-- its components
abbrev pub item_components : RuleItem → Components
item_components (between_rules c) = component c no_components
item_components (at_rule keyword prelude end) =
    component keyword (followed prelude (component end no_components))
item_components (qualified_rule prelude block) = followed prelude (component block no_components)

-- the components of items, one after another
abbrev pub items_components : List RuleItem → Components
items_components [] = no_components
items_components (i ∷ items) = followed (item_components i) (items_components items)

-- with this a qualified rule begins: it is not passed over, and it is no at-keyword
abbrev pub BeginsPrelude : List Condition → Components → Type 0
BeginsPrelude around no_components = Unit {0}
BeginsPrelude around (component c cs) =
    (is_between_rules around c ≡ false) × (is_some (at_keyword_of c) ≡ false)

-- the prelude of a qualified rule: no `{}` block is in it
pub record IsPrelude (around : List Condition) (prelude : Components) : Type 0 where
  pub begins : BeginsPrelude around prelude
  pub no_block : NonePass is_curly_block prelude

-- the at-keyword and the prelude of an at-rule: neither a `;` nor a `{}` block is in it
pub record BeginsAtRule (keyword : Component) (prelude : Components) : Type 0 where
  pub is_keyword : is_some (at_keyword_of keyword) ≡ true
  pub no_end : NonePass ends_at_rule prelude

-- this is an item of a list of rules with these conditions around it
abbrev pub IsItem : List Condition → RuleItem → Type 0
IsItem around (between_rules c) = is_between_rules around c ≡ true
IsItem around (at_rule keyword prelude end) =
    BeginsAtRule keyword prelude × (ends_at_rule end ≡ true)
IsItem around (qualified_rule prelude block) =
    IsPrelude around prelude × (is_curly_block block ≡ true)

abbrev pub AreItems : List Condition → List RuleItem → Type 0
AreItems around [] = Unit {0}
AreItems around (i ∷ items) = IsItem around i × AreItems around items

-- the style rules of an item
abbrev pub item_rules : List Condition → RuleItem → List StyleRule
item_rules around (between_rules c) = []
item_rules around (at_rule keyword prelude end) =
    rules_in_block (conditions_inside around (condition_of keyword prelude)) end
item_rules around (qualified_rule prelude block) = style_rule around prelude block ∷ []

abbrev pub items_rules : List Condition → List RuleItem → List StyleRule
items_rules around items = flat_map (item_rules around) items

-- what is left where the list ends inside a rule: an at-rule without its end, or a prelude, or
-- nothing
abbrev pub IsUnended : List Condition → Components → Type 0
IsUnended around cs = IsPrelude around cs
    ⊎ ((keyword : Component) × (prelude : Components) × (cs ≡ component keyword prelude)
    × BeginsAtRule keyword prelude)

-- a list of rules: items, and what is left
pub record IsRuleList (around : List Condition) (cs : Components) : Type 0 where
  pub items : List RuleItem
  pub rest : Components
  pub joined : cs ≡ followed (items_components items) rest
  pub are_items : AreItems around items
  pub unended : IsUnended around rest

-- the conditions around each rule begin with these
abbrev pub BeginWith : List Condition → List StyleRule → Type 0
BeginWith around [] = Unit {0}
BeginWith around (r ∷ rules) =
    ((inner : List Condition) × (r.conditions ≡ around ++ inner)) × BeginWith around rules
