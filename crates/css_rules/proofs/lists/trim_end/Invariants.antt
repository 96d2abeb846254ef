-- What is before white space at the end stays the same.
use Rattle.std.proofs.Common.{◌≡◌, length}
use Rattle.css_tokens.specs.Nested.{components_view}
use Rattle.rules_model.specs.ComponentLists.{without_end_whitespace}
use Rattle.css_rules.proofs.lists.trim_end.Given as goal

abbrev pub invariant-loop-components : goal.invariant-loop-components
invariant-loop-components l =
    without_end_whitespace (components_view l.components)
    ≡ without_end_whitespace (components_view l.fn.components)

abbrev pub decreases-loop-components : goal.decreases-loop-components
decreases-loop-components l = length l.components
