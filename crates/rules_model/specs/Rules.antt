-- The style rules of a list of rules (CSS Syntax 3, sections 5.4.1 to 5.4.3).
use Rattle.std.specs.Prelude.{◌&&◌, ◌||◌, if◌then◌else◌, List, [], ◌∷◌, ◌++◌, codes, Option, Some, None, option_map, option_and_then, Bool, true, false}
use Rattle.std.specs.Option.{is_some}
use Rattle.std.specs.Str.{str_eq_ignore_ascii_case}
use Rattle.css_model.specs.Classes.{Text}
use Rattle.css_model.specs.Components.{Component, simple_block, Components, no_components, component}
use Rattle.rules_model.specs.declared.conditional_rule.ConditionalRule.{ConditionalRule}
use Rattle.rules_model.specs.declared.conditional_rule.ConditionalRule.TheVariants.{Media, Container}
use Rattle.rules_model.specs.ComponentLists.{ends_at_rule, is_token, is_cdo_or_cdc_type, is_whitespace, at_keyword_of, is_curly_block, contents_of, before, trimmed}
use Rattle.rules_model.specs.Declarations.{Declaration, declarations_of}

-- the at-keyword and the prelude of an at-rule, where its block is kept
pub record Condition : Type 0 where
  pub at_rule : ConditionalRule
  pub prelude : Components

-- a qualified rule: its prelude, the conditions around it, the outermost first, and the declarations
-- of its block. There is no white space at the ends of preludes
pub record StyleRule : Type 0 where
  pub prelude : Components
  pub conditions : List Condition
  pub declarations : List Declaration

-- ---- at-rules (5.4.2)

-- the at-rules whose blocks are kept, by their names in any case
abbrev pub conditional_rule_of : Text → Option ConditionalRule
conditional_rule_of name =
    if str_eq_ignore_ascii_case name (codes "media") then Some Media
    else if str_eq_ignore_ascii_case name (codes "container") then Some Container
    else None

-- the condition of the at-rule that begins with this component, before the others
abbrev pub condition_of : Component → Components → Option Condition
condition_of c cs =
    option_map (λ at_rule. record { at_rule = at_rule; prelude = trimmed (before ends_at_rule cs) })
    (option_and_then conditional_rule_of (at_keyword_of c))

-- the conditions around what is in the block of an at-rule, if it is kept
abbrev pub conditions_inside : List Condition → Option Condition → Option (List Condition)
conditions_inside around condition = option_map (λ c. around ++ (c ∷ [])) condition

-- ---- lists of rules (5.4.1, 5.4.3)

abbrev pub is_top_level : List Condition → Bool
is_top_level [] = true
is_top_level (c ∷ around) = false

-- what is passed over where a rule would begin: white space, and `<!--` and `-->` at the top level
abbrev pub is_between_rules : List Condition → Component → Bool
is_between_rules around c = is_whitespace c || (is_top_level around && is_token is_cdo_or_cdc_type c)

-- the style rule of a prelude and a `{}` block
abbrev pub style_rule : List Condition → Components → Component → StyleRule
style_rule around prelude block = record {
  prelude = trimmed prelude;
  conditions = around;
  declarations = declarations_of (contents_of block);
}

-- the style rules of a list of rules with these conditions around it, in their order
abbrev mutual
  pub rules_in : List Condition → Components → List StyleRule
  rules_in around no_components = []
  rules_in around (component c cs) =
      if is_between_rules around c then rules_in around cs
      else if is_some (at_keyword_of c)
      then rules_from_at_rule around (conditions_inside around (condition_of c cs)) cs
      else if is_curly_block c then style_rule around no_components c ∷ rules_in around cs
      else rules_from_prelude around (before is_curly_block (component c cs)) cs

  -- those from inside an at-rule on, with these conditions around what is in its block, if it is kept
  pub rules_from_at_rule : List Condition → Option (List Condition) → Components → List StyleRule
  rules_from_at_rule around inside no_components = []
  rules_from_at_rule around inside (component c cs) =
      if ends_at_rule c then rules_in_block inside c ++ rules_in around cs
      else rules_from_at_rule around inside cs

  -- those in the block of an at-rule
  pub rules_in_block : Option (List Condition) → Component → List StyleRule
  rules_in_block (Some inside) (simple_block head contents close) = rules_in inside contents
  rules_in_block inside other = []

  -- those from inside this prelude of a qualified rule on; without a block there is no rule
  pub rules_from_prelude : List Condition → Components → Components → List StyleRule
  rules_from_prelude around prelude no_components = []
  rules_from_prelude around prelude (component c cs) =
      if is_curly_block c then style_rule around prelude c ∷ rules_in around cs
      else rules_from_prelude around prelude cs

-- the style rules of a sheet's components, in their order
abbrev pub rules_of : Components → List StyleRule
rules_of cs = rules_in [] cs
