-- What was gathered, and then what is before the end, is the part.
use Rattle.std.proofs.Common.{◌≡◌}
use Rattle.css_model.specs.inner.Nesting.{followed}
use Rattle.css_tokens.specs.Nested.{components_view}
use Rattle.rules_model.specs.ComponentLists.{before}
use Rattle.css_rules.specs.inner.Reading.{left_of, ends, after, end_of, count}
use Rattle.css_rules.proofs.ahead.Ahead.gather.Given as goal

abbrev pub invariant-loop-c : goal.invariant-loop-c
invariant-loop-c l = record {
  part : followed (components_view l.part) (before (ends l.end) (left_of l.self))
      ≡ followed (components_view l.fn.part) (before (ends l.end) (left_of l.fn.self));
  left : after (ends l.end) (left_of l.self) ≡ after (ends l.end) (left_of l.fn.self);
  end : end_of (ends l.end) (left_of l.self) ≡ end_of (ends l.end) (left_of l.fn.self);
}

abbrev pub decreases-loop-c : goal.decreases-loop-c
decreases-loop-c l = count (left_of l.self)
