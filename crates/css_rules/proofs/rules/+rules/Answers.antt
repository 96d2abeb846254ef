-- Each call adds the rules of its part.
use Rattle.std.proofs.Common.{rules, ◌≡◌, ◌∙◌, ap, sym, refl, subst, arith, Some, None, option_map, length, List}
use Rattle.std.proofs.lemmas.Result.{on_ok_weaker}
use Rattle.css_model.specs.inner.Nesting.{followed}
use Rattle.css_tokens.specs.Nested.{component_view, components_view}
use Rattle.rules_model.specs.ComponentLists.{ends_at_rule, before}
use Rattle.rules_model.specs.Rules.{Condition}
use Rattle.css_rules.specs.declared.rules.Found.{Found}
use Rattle.css_rules.specs.inner.Found.{around_of, IsInside, conditions_with}
use Rattle.css_rules.specs.inner.Reading.{left_of, end_of}
use Rattle.css_rules.proofs.FoundRules.{none-found, condition-pushed, inside-found, end-contents-less, prelude-is, at_rule-left, at_rule-end, block-found, both-ok, takes-between, takes-at_rule, takes-qualified}
use Rattle.css_rules.proofs.rules.+rules.Goals as goal

pub find_in_block-find_rules-requires : goal.find_in_block-find_rules-requires
find_in_block-find_rules-requires t c =
    let after : Found = record { conditions = c.push.new.self; rules = c.args.found.now.rules } in
    let pushed =
    condition-pushed c.args.found.now after c.args.condition c.requires c.in_ok-push.ensures.ok
    refl in
    let place : length c.args.found.now.conditions ≡ c.len-inside.result = search rules in
    (omega arith, subst (λ n. IsInside after (Some n)) place pushed.inside)

pub find_in_block-returns : goal.find_in_block-returns
find_in_block-returns t c =
    let after : Found = record { conditions = c.push.new.self; rules = c.args.found.now.rules } in
    let pushed =
    condition-pushed c.args.found.now after c.args.condition c.requires c.in_ok-push.ensures.ok
    refl in
    let place : c.len-inside.result ≡ length c.args.found.now.conditions = search rules in
    on_ok_weaker c.find_rules.result
    (inside-found c.args.found.now after c.find_rules.new.found c.args.condition c.len-inside.result
    (components_view c.args.contents) place pushed)
    c.find_rules.ensures

pub find_in_conditional_rule-find_in_block-requires : goal.find_in_conditional_rule-find_in_block-requires
find_in_conditional_rule-find_in_block-requires t c =
    let end : Some (component_view c.in-Some.end)
    ≡ end_of ends_at_rule (left_of c.skip_whitespace.new.self) =
    ap (option_map component_view) (sym c.in-Some.is) ∙ c.in_ok-end.ensures.end in
    let less = end-contents-less (left_of c.args.ahead.now) (component_view c.in-Some.end)
    (components_view c.into_contents.result)
    (at_rule-end (left_of c.args.ahead.now) (left_of c.skip_whitespace.new.self)
    (Some (component_view c.in-Some.end)) c.skip_whitespace.ensures end) c.into_contents.ensures
    in
    (omega (arith, less), c.requires)

pub find_in_conditional_rule-returns-in-Some-clause-found : goal.find_in_conditional_rule-returns-in-Some-clause-found
find_in_conditional_rule-returns-in-Some-clause-found t c =
    let end : Some (component_view c.in-Some.end)
    ≡ end_of ends_at_rule (left_of c.skip_whitespace.new.self) =
    ap (option_map component_view) (sym c.in-Some.is) ∙ c.in_ok-end.ensures.end in
    let part : components_view c.gather.new.part
    ≡ before ends_at_rule (left_of c.skip_whitespace.new.self) =
    c.in_ok-end.ensures.part
    ∙ ap (λ cs. followed (components_view cs)
    (before ends_at_rule (left_of c.skip_whitespace.new.self))) c.new-prelude.ensures in
    let prelude =
    prelude-is (left_of c.args.ahead.now) (left_of c.skip_whitespace.new.self)
    (components_view c.gather.new.part) (components_view c.trim_end.new.components)
    c.skip_whitespace.ensures part c.trim_end.ensures in
    on_ok_weaker c.find_in_block.result
    (block-found c.args.found.now c.find_in_block.new.found
    (around_of c.args.found.now c.args.around)
    (record { at_rule = c.args.at_rule; prelude = components_view c.trim_end.new.components })
    c.args.at_rule (left_of c.args.ahead.now) (components_view c.into_contents.result)
    (component_view c.in-Some.end)
    (λ j. record { at_rule = c.args.at_rule; prelude = prelude j })
    (at_rule-end (left_of c.args.ahead.now) (left_of c.skip_whitespace.new.self)
    (Some (component_view c.in-Some.end)) c.skip_whitespace.ensures end)
    c.into_contents.ensures)
    c.find_in_block.ensures

pub find_in_conditional_rule-returns-in-Some-clause-left : goal.find_in_conditional_rule-returns-in-Some-clause-left
find_in_conditional_rule-returns-in-Some-clause-left t c =
    on_ok_weaker c.find_in_block.result
    (λ _. at_rule-left (left_of c.args.ahead.now) (left_of c.skip_whitespace.new.self)
    (left_of c.gather.new.self) c.skip_whitespace.ensures c.in_ok-end.ensures.left)
    c.find_in_block.ensures

pub find_in_conditional_rule-returns-in-None-clause-found : goal.find_in_conditional_rule-returns-in-None-clause-found
find_in_conditional_rule-returns-in-None-clause-found t c =
    let end = at_rule-end (left_of c.args.ahead.now) (left_of c.skip_whitespace.new.self) None
    c.skip_whitespace.ensures
    (ap (option_map component_view) (sym c.in-None.is) ∙ c.in_ok-end.ensures.end) in
    none-found c.args.found.now c.args.around
    (Some (conditions_with (around_of c.args.found.now c.args.around) c.args.at_rule
    (left_of c.args.ahead.now)))
    (end_of ends_at_rule (left_of c.args.ahead.now)) c.requires end

pub find_in_conditional_rule-returns-in-None-clause-left : goal.find_in_conditional_rule-returns-in-None-clause-left
find_in_conditional_rule-returns-in-None-clause-left t c =
    at_rule-left (left_of c.args.ahead.now) (left_of c.skip_whitespace.new.self)
    (left_of c.gather.new.self) c.skip_whitespace.ensures c.in_ok-end.ensures.left

pub find_rule-returns-then-is_between_rules : goal.find_rule-returns-then-is_between_rules
find_rule-returns-then-is_between_rules t c =
    let around : List Condition = around_of c.args.found.now c.args.around in
    takes-between c.args.found.now c.args.around around (component_view c.args.first)
    (left_of c.args.ahead.now) c.requires
    (sym (c.is_between_rules.ensures around c.requires.top) ∙ c.if-is_between_rules.true)

pub find_rule-returns-then-is_at_keyword : goal.find_rule-returns-then-is_at_keyword
find_rule-returns-then-is_at_keyword t c =
    let around : List Condition = around_of c.args.found.now c.args.around in
    both-ok c.find_in_at_rule.result
    (takes-at_rule c.args.found.now c.find_in_at_rule.new.found around (component_view c.args.first)
    (left_of c.args.ahead.now) (left_of c.find_in_at_rule.new.ahead)
    (sym (c.is_between_rules.ensures around c.requires.top) ∙ c.if-is_between_rules.false)
    (sym c.is_at_keyword.ensures ∙ c.if-is_at_keyword.true))
    c.find_in_at_rule.ensures.found c.find_in_at_rule.ensures.left

pub find_rule-returns-else-is_curly_block : goal.find_rule-returns-else-is_curly_block
find_rule-returns-else-is_curly_block t c =
    let around : List Condition = around_of c.args.found.now c.args.around in
    both-ok c.find_qualified_rule.result
    (takes-qualified c.args.found.now c.find_qualified_rule.new.found around
    (component_view c.args.first) (left_of c.args.ahead.now)
    (left_of c.find_qualified_rule.new.ahead)
    (sym (c.is_between_rules.ensures around c.requires.top) ∙ c.if-is_between_rules.false)
    (sym c.is_at_keyword.ensures ∙ c.if-is_at_keyword.false)
    (sym c.is_curly_block.ensures ∙ c.if-is_curly_block.false))
    c.find_qualified_rule.ensures.found c.find_qualified_rule.ensures.left
