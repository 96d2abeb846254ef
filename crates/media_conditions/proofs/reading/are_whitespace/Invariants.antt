-- The rest is white space where all are.
use Rattle.std.proofs.Common.{◌≡◌, drop}
use Rattle.css_tokens.specs.Nested.{components_view}
use Rattle.rules_model.specs.ComponentLists as lists
use Rattle.media_conditions.proofs.reading.are_whitespace.Given as goal

abbrev pub invariant-loop-component : goal.invariant-loop-component
invariant-loop-component l =
    lists.are_whitespace (components_view (drop l.component-index l.components))
    ≡ lists.are_whitespace (components_view l.fn.components)
