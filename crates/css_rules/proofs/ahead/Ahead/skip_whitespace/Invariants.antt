-- What is after white space stays the same.
use Rattle.std.proofs.Common.{◌≡◌}
use Rattle.rules_model.specs.ComponentLists.{without_front_whitespace}
use Rattle.css_rules.specs.inner.Reading.{left_of, count}
use Rattle.css_rules.proofs.ahead.Ahead.skip_whitespace.Given as goal

abbrev pub invariant-loop-self : goal.invariant-loop-self
invariant-loop-self l =
    without_front_whitespace (left_of l.self) ≡ without_front_whitespace (left_of l.fn.self)

abbrev pub decreases-loop-self : goal.decreases-loop-self
decreases-loop-self l = count (left_of l.self)
