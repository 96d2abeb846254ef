-- What is not moved yet, and then what was moved, is all.
use Rattle.std.proofs.Common.{◌≡◌, length}
use Rattle.css_model.specs.inner.Nesting.{followed}
use Rattle.css_tokens.specs.Nested.{components_view}
use Rattle.css_rules.specs.inner.Reading.{stacked}
use Rattle.css_rules.proofs.ahead.Ahead.new.Given as goal

abbrev pub invariant-loop-last : goal.invariant-loop-last
invariant-loop-last l =
    followed (components_view l.components) (stacked l.stack) ≡ components_view l.fn.components

abbrev pub decreases-loop-last : goal.decreases-loop-last
decreases-loop-last l = length l.components
