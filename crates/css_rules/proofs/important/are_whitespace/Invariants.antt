use Rattle.std.proofs.Common.{◌≡◌, drop}
use Rattle.css_tokens.specs.Nested.{components_view}
use Rattle.rules_model.specs.ComponentLists.{are_whitespace}
use Rattle.css_rules.proofs.important.are_whitespace.Given as goal

abbrev pub invariant-loop-c : goal.invariant-loop-c
invariant-loop-c l =
    are_whitespace (components_view (drop l.c-index l.components))
    ≡ are_whitespace (components_view l.components)
