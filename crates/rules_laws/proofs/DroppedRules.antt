-- What adds no rule to those around it.
use Rattle.std.proofs.Common.{◌≡◌, ◌∙◌, ap, sym, refl, inl, inr, List, [], ◌++◌, true, Option, Some, None, option_map, option_and_then, append-nil}
use Rattle.css_model.specs.Components.{Component, preserved, simple_block, function_block, Components, component}
use Rattle.css_model.specs.inner.Nesting.{followed}
use Rattle.rules_model.specs.declared.conditional_rule.ConditionalRule.{ConditionalRule}
use Rattle.rules_model.specs.ComponentLists.{ends_at_rule, at_keyword_of, is_semicolon, before, trimmed}
use Rattle.rules_model.specs.Rules.{Condition, conditional_rule_of, condition_of, conditions_inside, rules_in, rules_in_block}
use Rattle.rules_laws.specs.RuleLists.{RuleItem, items_components, BeginsAtRule, IsUnended, AreItems, items_rules}
use Rattle.rules_laws.proofs.RulesOfItems.{rules-items, rules-at_rule, rules-open_at_rule, rules-prelude}

block-none : (c : Component) → rules_in_block None c ≡ []
block-none (preserved t) = refl
block-none (simple_block head contents close) = refl
block-none (function_block head contents close) = refl

block-semicolon : (inside : Option (List Condition)) (c : Component) → is_semicolon c ≡ true
    → rules_in_block inside c ≡ []
block-semicolon None c e = block-none c
block-semicolon (Some inside) (preserved t) e = refl
block-semicolon (Some inside) (simple_block head contents close) e = cc
block-semicolon (Some inside) (function_block head contents close) e = refl

-- what adds no rule can stand where a rule would begin
pub dropped-at : (around : List Condition) (items : List RuleItem) (dropped rest : Components)
    → AreItems around items
    → rules_in around dropped ≡ rules_in around rest
    → rules_in around (followed (items_components items) dropped)
    ≡ rules_in around (followed (items_components items) rest)
dropped-at around items dropped rest are e =
    rules-items around items dropped are
    ∙ (ap (λ rs. items_rules around items ++ rs) e ∙ sym (rules-items around items rest are))

pub dropped-other : (around : List Condition) (items : List RuleItem) (keyword : Component)
    (prelude : Components) (end : Component) (rest : Components)
    → AreItems around items → BeginsAtRule keyword prelude → ends_at_rule end ≡ true
    → option_and_then conditional_rule_of (at_keyword_of keyword) ≡ None
    → rules_in around (followed (items_components items)
    (component keyword (followed prelude (component end rest))))
    ≡ rules_in around (followed (items_components items) rest)
dropped-other around items keyword prelude end rest are b e o =
    let none : condition_of keyword prelude ≡ None =
    ap (option_map (λ (k : ConditionalRule).
    record { at_rule = k; prelude = trimmed (before ends_at_rule prelude) })) o in
    let nothing : rules_in_block (conditions_inside around (condition_of keyword prelude)) end
    ≡ [] =
    ap (λ c. rules_in_block (conditions_inside around c) end) none ∙ block-none end in
    dropped-at around items (component keyword (followed prelude (component end rest))) rest are
    (rules-at_rule around keyword prelude end rest b e
    ∙ ap (λ rs. rs ++ rules_in around rest) nothing)

pub dropped-without_block : (around : List Condition) (items : List RuleItem) (keyword : Component)
    (prelude : Components) (end : Component) (rest : Components)
    → AreItems around items → BeginsAtRule keyword prelude → is_semicolon end ≡ true
    → rules_in around (followed (items_components items)
    (component keyword (followed prelude (component end rest))))
    ≡ rules_in around (followed (items_components items) rest)
dropped-without_block around items keyword prelude end rest are b e =
    let ends : ends_at_rule end ≡ true = rw e refl in
    dropped-at around items (component keyword (followed prelude (component end rest))) rest are
    (rules-at_rule around keyword prelude end rest b ends
    ∙ ap (λ rs. rs ++ rules_in around rest)
    (block-semicolon (conditions_inside around (condition_of keyword prelude)) end e))

unended-none : (around : List Condition) (rest : Components) → IsUnended around rest
    → rules_in around rest ≡ []
unended-none around rest (inl p) = rules-prelude around rest p
unended-none around rest (inr r) = ap (rules_in around) r.2 ∙ rules-open_at_rule around r.0 r.1 r.3

pub dropped-unended : (around : List Condition) (items : List RuleItem) (rest : Components)
    → AreItems around items
    → IsUnended around rest → rules_in around (followed (items_components items) rest)
    ≡ items_rules around items
dropped-unended around items rest are u =
    rules-items around items rest are
    ∙ (ap (λ rs. items_rules around items ++ rs) (unended-none around rest u)
    ∙ append-nil (items_rules around items))
