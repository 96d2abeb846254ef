-- The rest is the same without white space in front.
use Rattle.std.proofs.Common.{◌≡◌, drop}
use Rattle.css_tokens.specs.Nested.{components_view}
use Rattle.rules_model.specs.ComponentLists.{without_front_whitespace}
use Rattle.size_features.proofs.white_space.trim_front.Given as goal

abbrev pub invariant-loop-place : goal.invariant-loop-place
invariant-loop-place l =
    without_front_whitespace (components_view (drop l.place l.components))
    ≡ without_front_whitespace (components_view l.fn.components)
