-- The conditions around rules.
use Rattle.std.proofs.Common.{◌≡◌, ◌∙◌, ap, sym, inl, inr, List, [], ◌∷◌, ◌++◌, true, Option, Some, None, option_map, option_and_then, append_assoc, append-nil}
use Rattle.std.proofs.lemmas.Bool.{cases_Bool}
use Rattle.std.specs.Option.{is_some}
use Rattle.css_model.specs.Components.{Component, preserved, simple_block, function_block, Components, no_components, component}
use Rattle.css_model.specs.inner.Nesting.{followed}
use Rattle.rules_model.specs.declared.conditional_rule.ConditionalRule.{ConditionalRule}
use Rattle.css_model.specs.declared.token.Token.{Token}
use Rattle.rules_model.specs.ComponentLists.{ends_at_rule, at_keyword_of, is_curly_block, before, trimmed}
use Rattle.rules_model.specs.Rules.{Condition, StyleRule, conditional_rule_of, condition_of, conditions_inside, is_between_rules, style_rule, rules_in, rules_from_at_rule, rules_in_block, rules_from_prelude}
use Rattle.rules_laws.specs.RuleLists.{BeginsAtRule, BeginWith}
use Rattle.rules_laws.proofs.Lists.{before-all}
use Rattle.rules_laws.proofs.RulesOfItems.{rules-at_rule}

begin-append : (around : List Condition) (rs ss : List StyleRule) → BeginWith around rs
    → BeginWith around ss → BeginWith around (rs ++ ss)
begin-append around [] ss b d = d
begin-append around (r ∷ rs) ss b d = (b.0, begin-append around rs ss b.1 d)

begin-outer : (around : List Condition) (c : Condition) (rs : List StyleRule)
    → BeginWith (around ++ (c ∷ [])) rs → BeginWith around rs
begin-outer around c [] b = tt
begin-outer around c (r ∷ rs) b =
    ((c ∷ b.0.0, b.0.1 ∙ append_assoc around (c ∷ []) b.0.0), begin-outer around c rs b.1)

-- a rule of this list itself
begin-rule : (around : List Condition) (prelude : Components) (block : Component)
    (rs : List StyleRule)
    → BeginWith around rs → BeginWith around (style_rule around prelude block ∷ rs)
begin-rule around prelude block rs b = (([], sym (append-nil around)), b)

mutual
  pub begin-with : (around : List Condition) (cs : Components)
      → BeginWith around (rules_in around cs)
  begin-with around no_components = tt
  begin-with around (component c cs) = elim (cases_Bool (is_between_rules around c)) [
    | inl b ↦ rw b (begin-with around cs)
    | inr b ↦ elim (cases_Bool (is_some (at_keyword_of c))) [
      | inl k ↦ rw (b, k) (begin-at_rule around (condition_of c cs) cs)
      | inr k ↦ elim (cases_Bool (is_curly_block c)) [
        | inl e ↦ rw (b, k, e) (begin-rule around no_components c (rules_in around cs)
            (begin-with around cs))
        | inr e ↦ rw (b, k, e) (begin-prelude around (component c (before is_curly_block cs)) cs)
      ]
    ]
  ]

  begin-at_rule : (around : List Condition) (condition : Option Condition) (cs : Components)
      → BeginWith around (rules_from_at_rule around (conditions_inside around condition) cs)
  begin-at_rule around condition no_components = tt
  begin-at_rule around condition (component c cs) = elim (cases_Bool (ends_at_rule c)) [
    | inl e ↦ rw e (begin-append around (rules_in_block (conditions_inside around condition) c)
        (rules_in around cs)
        (begin-block around condition c) (begin-with around cs))
    | inr e ↦ rw e (begin-at_rule around condition cs)
  ]

  begin-block : (around : List Condition) (condition : Option Condition) (c : Component)
      → BeginWith around (rules_in_block (conditions_inside around condition) c)
  begin-block around None (preserved t) = tt
  begin-block around None (simple_block head contents close) = tt
  begin-block around None (function_block head contents close) = tt
  begin-block around (Some k) (preserved t) = tt
  begin-block around (Some k) (function_block head contents close) = tt
  begin-block around (Some k) (simple_block head contents close) =
      begin-outer around k (rules_in (around ++ (k ∷ [])) contents)
      (begin-with (around ++ (k ∷ [])) contents)

  begin-prelude : (around : List Condition) (prelude cs : Components)
      → BeginWith around (rules_from_prelude around prelude cs)
  begin-prelude around prelude no_components = tt
  begin-prelude around prelude (component c cs) = elim (cases_Bool (is_curly_block c)) [
    | inl e ↦ rw e (begin-rule around prelude c (rules_in around cs) (begin-with around cs))
    | inr e ↦ rw e (begin-prelude around prelude cs)
  ]

-- the rules of a block
pub conditions-block : (around : List Condition) (keyword : Component) (kind : ConditionalRule)
    (prelude : Components) (head : Token) (contents : Components) (close : Option Token)
    (rest : Components)
    → BeginsAtRule keyword prelude
    → option_and_then conditional_rule_of (at_keyword_of keyword) ≡ Some kind
    → is_curly_block (simple_block head contents close) ≡ true
    → rules_in around (component keyword
    (followed prelude (component (simple_block head contents close) rest)))
    ≡ rules_in (around ++ (record { at_rule = kind; prelude = trimmed prelude } ∷ [])) contents
    ++ rules_in around rest
conditions-block around keyword kind prelude head contents close rest b k e =
    let trim : condition_of keyword prelude
    ≡ Some (record { at_rule = kind; prelude = trimmed prelude }) =
    ap (option_map (λ (x : ConditionalRule).
    record { at_rule = x; prelude = trimmed (before ends_at_rule prelude) })) k
    ∙ ap (λ p. Some (record { at_rule = kind; prelude = trimmed p }))
    (before-all ends_at_rule prelude b.no_end) in
    let ends : ends_at_rule (simple_block head contents close) ≡ true = e in
    rules-at_rule around keyword prelude (simple_block head contents close) rest b ends
    ∙ ap (λ c. rules_in_block (conditions_inside around c) (simple_block head contents close)
    ++ rules_in around rest) trim
