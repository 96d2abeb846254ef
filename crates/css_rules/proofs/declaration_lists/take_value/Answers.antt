use Rattle.std.proofs.Common.{◌≡◌, ◌∙◌, ap, refl}
use Rattle.css_model.specs.inner.Nesting.{followed}
use Rattle.css_tokens.specs.Nested.{components_view}
use Rattle.rules_model.specs.ComponentLists.{is_semicolon, before}
use Rattle.css_rules.specs.inner.Reading.{left_of, after}
use Rattle.css_rules.proofs.Parts.{front-after, white-semicolon}
use Rattle.css_rules.proofs.Values.{value-is}
use Rattle.css_rules.proofs.declaration_lists.take_value.Goals as goal

pub returns-clause-declaration : goal.returns-clause-declaration
returns-clause-declaration c =
    let part : components_view c.gather.new.part
    ≡ before is_semicolon (left_of c.skip_whitespace.new.self) =
    c.in_ok-gather.ensures.part ∙ ap
    (λ cs. followed (components_view cs)
    (before is_semicolon (left_of c.skip_whitespace.new.self))) c.new-value.ensures in
    let both = value-is (left_of c.args.ahead.now) (left_of c.skip_whitespace.new.self)
    c.gather.new.part c.take_important-important.new.value c.trim_end.new.components
    c.take_important-important.result
    c.skip_whitespace.ensures part c.take_important-important.ensures.important
    c.take_important-important.ensures.value c.trim_end.ensures in
    rw (both.0, both.1) refl

pub returns-clause-left : goal.returns-clause-left
returns-clause-left c =
    c.in_ok-gather.ensures.left
    ∙ (ap (after is_semicolon) c.skip_whitespace.ensures
    ∙ front-after is_semicolon white-semicolon (left_of c.args.ahead.now))
