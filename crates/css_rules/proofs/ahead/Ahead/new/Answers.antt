use Rattle.std.proofs.Common.{◌∙◌, ap}
use Rattle.css_model.specs.inner.Nesting.{followed}
use Rattle.css_tokens.specs.Nested.{components_view}
use Rattle.css_rules.specs.inner.Reading.{stacked}
use Rattle.css_rules.proofs.Parts.{followed-end, moved-one}
use Rattle.css_rules.proofs.ahead.Ahead.new.Goals as goal

pub loop-last-init : goal.loop-last-init
loop-last-init c =
    ap (λ s. followed (components_view c.args.components) (stacked s)) c.in_ok-stack.ensures
    ∙ followed-end (components_view c.args.components)

pub loop-last-preserved : goal.loop-last-preserved
loop-last-preserved c =
    moved-one c.loop-last.components c.pop.new.self c.loop-last.stack c.push.new.self c.in-Some.last
    (components_view c.args.components) c.in-Some.ensures c.in_ok-push.ensures.ok
    c.loop-last.invariant
