use Rattle.std.proofs.Common.{◌≡◌, drop}
use Rattle.css_tokens.specs.Nested.{components_view}
use Rattle.custom_props.specs.inner.Reading.{after_comma}
use Rattle.custom_props.proofs.references.place_after_comma.Given as goal

-- no comma was passed over
abbrev pub invariant-loop-place : goal.invariant-loop-place
invariant-loop-place l =
    after_comma (components_view (drop l.place l.contents)) ≡ after_comma (components_view l.contents)
