-- What is after the end stays the same.
use Rattle.std.proofs.Common.{◌≡◌}
use Rattle.css_rules.specs.inner.Reading.{left_of, ends, after, count}
use Rattle.css_rules.proofs.ahead.Ahead.skip.Given as goal

abbrev pub invariant-loop-c : goal.invariant-loop-c
invariant-loop-c l = after (ends l.end) (left_of l.self) ≡ after (ends l.end) (left_of l.fn.self)

abbrev pub decreases-loop-c : goal.decreases-loop-c
decreases-loop-c l = count (left_of l.self)
