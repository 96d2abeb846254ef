-- What was kept, and then what is declared in what is left, is what all declare.
use Rattle.std.proofs.Common.{◌≡◌, ◌++◌}
use Rattle.css_tokens.specs.Nested.{components_view}
use Rattle.rules_model.specs.Declarations.{declarations_of}
use Rattle.css_rules.specs.Views.{declarations_view}
use Rattle.css_rules.specs.inner.Reading.{left_of, count}
use Rattle.css_rules.proofs.declaration_lists.declarations_in.Given as goal

abbrev pub invariant-loop-c : goal.invariant-loop-c
invariant-loop-c l =
    declarations_view l.declarations ++ declarations_of (left_of l.ahead)
    ≡ declarations_of (components_view l.fn.contents)

abbrev pub decreases-loop-c : goal.decreases-loop-c
decreases-loop-c l = count (left_of l.ahead)
