-- The rules of the items of a list, one after another.
use Rattle.std.proofs.Common.{◌≡◌, ◌∙◌, ap, sym, refl, List, [], ◌∷◌, ◌++◌, true, false, Option, option_map, option_and_then, append_assoc, append-nil}
use Rattle.std.specs.Option.{is_some}
use Rattle.css_model.specs.Components.{Component, Components, no_components, component}
use Rattle.css_model.specs.inner.Nesting.{followed}
use Rattle.rules_model.specs.ComponentLists.{ends_at_rule, is_token, is_cdo_or_cdc_type, at_keyword_of, is_curly_block, before, trimmed}
use Rattle.rules_model.specs.Rules.{Condition, conditional_rule_of, condition_of, conditions_inside, is_top_level, is_between_rules, style_rule, rules_in, rules_from_at_rule, rules_in_block, rules_from_prelude}
use Rattle.rules_laws.specs.Parts.{NonePass}
use Rattle.rules_laws.specs.RuleLists.{RuleItem, between_rules, at_rule, qualified_rule, item_components, items_components, IsPrelude, BeginsAtRule, IsItem, AreItems, item_rules, items_rules}
use Rattle.rules_laws.proofs.Booleans.{and-false}
use Rattle.rules_laws.proofs.Apart.{keyword-whitespace, keyword-cdo, curly-whitespace, curly-cdo, curly-keyword}
use Rattle.rules_laws.proofs.Lists.{followed-followed, followed-end, before-end, before-all}

keyword-between : (around : List Condition) (c : Component) → is_some (at_keyword_of c) ≡ true
    → is_between_rules around c ≡ false
keyword-between around c e =
    rw (keyword-whitespace c e) (and-false (is_top_level around) (is_token is_cdo_or_cdc_type c)
    (keyword-cdo c e))

curly-between : (around : List Condition) (c : Component) → is_curly_block c ≡ true
    → is_between_rules around c ≡ false
curly-between around c e =
    rw (curly-whitespace c e) (and-false (is_top_level around) (is_token is_cdo_or_cdc_type c)
    (curly-cdo c e))

-- ---- what is passed over

pub rules-between : (around : List Condition) (c : Component) (cs : Components)
    → is_between_rules around c ≡ true → rules_in around (component c cs) ≡ rules_in around cs
rules-between around c cs e = rw e refl

-- ---- at-rules

pub from_at_rule-end : (around : List Condition) (inside : Option (List Condition))
    (prelude : Components) (end : Component) (cs : Components)
    → NonePass ends_at_rule prelude → ends_at_rule end ≡ true
    → rules_from_at_rule around inside (followed prelude (component end cs))
    ≡ rules_in_block inside end ++ rules_in around cs
from_at_rule-end around inside no_components end cs n e = rw e refl
from_at_rule-end around inside (component c prelude) end cs n e =
    rw n.0 (from_at_rule-end around inside prelude end cs n.1 e)

pub from_at_rule-none : (around : List Condition) (inside : Option (List Condition))
    (prelude : Components)
    → NonePass ends_at_rule prelude → rules_from_at_rule around inside prelude ≡ []
from_at_rule-none around inside no_components n = refl
from_at_rule-none around inside (component c prelude) n =
    rw n.0 (from_at_rule-none around inside prelude n.1)

condition-before : (keyword : Component) (prelude more : Components)
    → before ends_at_rule more ≡ before ends_at_rule prelude
    → condition_of keyword more ≡ condition_of keyword prelude
condition-before keyword prelude more e =
    ap (λ (p : Components). option_map (λ kind. record { at_rule = kind; prelude = trimmed p })
    (option_and_then conditional_rule_of (at_keyword_of keyword))) e

condition-end : (keyword : Component) (prelude : Components) (end : Component) (cs : Components)
    → NonePass ends_at_rule prelude → ends_at_rule end ≡ true
    → condition_of keyword (followed prelude (component end cs)) ≡ condition_of keyword prelude
condition-end keyword prelude end cs n e =
    condition-before keyword prelude (followed prelude (component end cs))
    (before-end ends_at_rule prelude end cs n e ∙ sym (before-all ends_at_rule prelude n))

pub rules-at_rule : (around : List Condition) (keyword : Component) (prelude : Components)
    (end : Component) (cs : Components)
    → BeginsAtRule keyword prelude → ends_at_rule end ≡ true
    → rules_in around (component keyword (followed prelude (component end cs)))
    ≡ rules_in_block (conditions_inside around (condition_of keyword prelude)) end
    ++ rules_in around cs
rules-at_rule around keyword prelude end cs b e =
    rw (keyword-between around keyword b.is_keyword, b.is_keyword)
    (ap (λ c. rules_from_at_rule around (conditions_inside around c)
    (followed prelude (component end cs)))
    (condition-end keyword prelude end cs b.no_end e)
    ∙ from_at_rule-end around (conditions_inside around (condition_of keyword prelude)) prelude end
    cs b.no_end e)

pub rules-open_at_rule : (around : List Condition) (keyword : Component) (prelude : Components)
    → BeginsAtRule keyword prelude → rules_in around (component keyword prelude) ≡ []
rules-open_at_rule around keyword prelude b =
    rw (keyword-between around keyword b.is_keyword, b.is_keyword)
    (from_at_rule-none around (conditions_inside around (condition_of keyword prelude)) prelude
    b.no_end)

-- ---- qualified rules

pub from_prelude-end : (around : List Condition) (all prelude : Components) (block : Component)
    (cs : Components)
    → NonePass is_curly_block prelude → is_curly_block block ≡ true
    → rules_from_prelude around all (followed prelude (component block cs))
    ≡ style_rule around all block ∷ rules_in around cs
from_prelude-end around all no_components block cs n e = rw e refl
from_prelude-end around all (component c prelude) block cs n e =
    rw n.0 (from_prelude-end around all prelude block cs n.1 e)

pub from_prelude-none : (around : List Condition) (all prelude : Components)
    → NonePass is_curly_block prelude → rules_from_prelude around all prelude ≡ []
from_prelude-none around all no_components n = refl
from_prelude-none around all (component c prelude) n =
    rw n.0 (from_prelude-none around all prelude n.1)

pub rules-qualified : (around : List Condition) (prelude : Components) (block : Component)
    (cs : Components)
    → IsPrelude around prelude → is_curly_block block ≡ true
    → rules_in around (followed prelude (component block cs))
    ≡ style_rule around prelude block ∷ rules_in around cs
rules-qualified around no_components block cs p e =
    rw (curly-between around block e, curly-keyword block e, e) refl
rules-qualified around (component c prelude) block cs p e =
    let n : NonePass is_curly_block (component c prelude) = p.no_block in
    rw (p.begins.0, p.begins.1, n.0)
    (ap (λ all. rules_from_prelude around (component c all) (followed prelude (component block cs)))
    (before-end is_curly_block prelude block cs n.1 e)
    ∙ from_prelude-end around (component c prelude) prelude block cs n.1 e)

pub rules-prelude : (around : List Condition) (prelude : Components) → IsPrelude around prelude
    → rules_in around prelude ≡ []
rules-prelude around no_components p = refl
rules-prelude around (component c prelude) p =
    let n : NonePass is_curly_block (component c prelude) = p.no_block in
    rw (p.begins.0, p.begins.1, n.0)
    (from_prelude-none around (component c (before is_curly_block prelude)) prelude n.1)

-- ---- items

pub rules-item : (around : List Condition) (i : RuleItem) (cs : Components) → IsItem around i
    → rules_in around (followed (item_components i) cs) ≡ item_rules around i ++ rules_in around cs
rules-item around (between_rules c) cs is = rules-between around c cs is
rules-item around (at_rule keyword prelude end) cs is =
    ap (λ ds. rules_in around (component keyword ds))
    (followed-followed prelude (component end no_components) cs)
    ∙ rules-at_rule around keyword prelude end cs is.0 is.1
rules-item around (qualified_rule prelude block) cs is =
    ap (rules_in around) (followed-followed prelude (component block no_components) cs)
    ∙ rules-qualified around prelude block cs is.0 is.1

pub rules-items : (around : List Condition) (items : List RuleItem) (cs : Components)
    → AreItems around items
    → rules_in around (followed (items_components items) cs)
    ≡ items_rules around items ++ rules_in around cs
rules-items around [] cs are = refl
rules-items around (i ∷ items) cs are =
    ap (rules_in around) (followed-followed (item_components i) (items_components items) cs)
    ∙ (rules-item around i (followed (items_components items) cs) are.0
    ∙ (ap (λ rs. item_rules around i ++ rs) (rules-items around items cs are.1)
    ∙ sym (append_assoc (item_rules around i) (items_rules around items) (rules_in around cs))))

pub rules-only_items : (around : List Condition) (items : List RuleItem) → AreItems around items
    → rules_in around (items_components items) ≡ items_rules around items
rules-only_items around items are =
    ap (rules_in around) (sym (followed-end (items_components items)))
    ∙ (rules-items around items no_components are ∙ append-nil (items_rules around items))

pub rules-joined : (around : List Condition) (items : List RuleItem) (cs : Components)
    → AreItems around items
    → rules_in around (followed (items_components items) cs)
    ≡ rules_in around (items_components items) ++ rules_in around cs
rules-joined around items cs are =
    rules-items around items cs are
    ∙ ap (λ rs. rs ++ rules_in around cs) (sym (rules-only_items around items are))
