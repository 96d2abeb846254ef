use Rattle.std.proofs.Common.{◌≡◌, drop, map}
use Rattle.css_tokens.specs.Nested.{component_view}
use Rattle.custom_props.proofs.sameness.+sameness.Given as goal

-- if the rest is the same, all are
abbrev pub invariant-are_same-loop-place : goal.invariant-are_same-loop-place
invariant-are_same-loop-place l =
    map component_view (drop l.place l.a) ≡ map component_view (drop l.place l.b)
    → map component_view l.a ≡ map component_view l.b
