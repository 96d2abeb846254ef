use Rattle.std.proofs.Common.{◌∙◌, ap, sym, ◌++◌, option_map}
use Rattle.std.proofs.lemmas.Result.{on_ok_weaker}
use Rattle.rules_model.specs.ComponentLists.{ends_at_rule, is_semicolon}
use Rattle.css_tokens.specs.Nested.{component_view}
use Rattle.rules_model.specs.Declarations.{declarations_of}
use Rattle.css_rules.specs.Views.{declaration_view, declarations_view}
use Rattle.css_rules.specs.inner.Reading.{left_of}
use Rattle.css_rules.proofs.Values.{count-after, declarations-at_rule, neither-between, taken-some, taken-none}
use Rattle.css_rules.proofs.declaration_lists.take_item.Goals as goal

pub returns-then-is_at_keyword-clause-less : goal.returns-then-is_at_keyword-clause-less
returns-then-is_at_keyword-clause-less c =
    rw c.skip.ensures (count-after ends_at_rule (left_of c.args.ahead.now))

pub returns-then-is_at_keyword-clause-taken : goal.returns-then-is_at_keyword-clause-taken
returns-then-is_at_keyword-clause-taken c =
    let other =
    neither-between (component_view c.args.first) (sym c.is_whitespace.ensures
    ∙ c.if-is_whitespace.false) (sym c.is_semicolon.ensures ∙ c.if-is_semicolon.false) in
    ap (λ ds. declarations_view c.args.declarations.now ++ ds) (ap declarations_of c.skip.ensures
    ∙ sym (declarations-at_rule (component_view c.args.first) (left_of c.args.ahead.now) other
    (sym c.is_at_keyword.ensures ∙ c.if-is_at_keyword.true)))

pub returns-in-Some-clause-less : goal.returns-in-Some-clause-less
returns-in-Some-clause-less c =
    on_ok_weaker c.push.result (λ _. rw c.in_ok-declaration.ensures.left
    (count-after is_semicolon (left_of c.args.ahead.now))) c.push.ensures.ok

pub returns-in-Some-clause-taken : goal.returns-in-Some-clause-taken
returns-in-Some-clause-taken c =
    let semicolon = sym c.is_semicolon.ensures ∙ c.if-is_semicolon.false in
    let other =
    neither-between (component_view c.args.first) (sym c.is_whitespace.ensures
    ∙ c.if-is_whitespace.false) semicolon in
    on_ok_weaker c.push.result
    (taken-some c.args.declarations.now c.push.new.self c.in-Some.declaration
    (component_view c.args.first) (left_of c.args.ahead.now)
    (left_of c.take_declaration.new.ahead)
    other (sym c.is_at_keyword.ensures ∙ c.if-is_at_keyword.false) semicolon
    (ap (option_map declaration_view) (sym c.in-Some.is) ∙ c.in_ok-declaration.ensures.declaration)
    c.in_ok-declaration.ensures.left)
    c.push.ensures.ok

pub returns-in-None-clause-less : goal.returns-in-None-clause-less
returns-in-None-clause-less c =
    rw c.in_ok-declaration.ensures.left (count-after is_semicolon (left_of c.args.ahead.now))

pub returns-in-None-clause-taken : goal.returns-in-None-clause-taken
returns-in-None-clause-taken c =
    let semicolon = sym c.is_semicolon.ensures ∙ c.if-is_semicolon.false in
    let other =
    neither-between (component_view c.args.first) (sym c.is_whitespace.ensures
    ∙ c.if-is_whitespace.false) semicolon in
    taken-none c.args.declarations.now (component_view c.args.first) (left_of c.args.ahead.now)
    (left_of c.take_declaration.new.ahead)
    other (sym c.is_at_keyword.ensures ∙ c.if-is_at_keyword.false) semicolon
    (ap (option_map declaration_view) (sym c.in-None.is) ∙ c.in_ok-declaration.ensures.declaration)
    c.in_ok-declaration.ensures.left
