use Rattle.std.proofs.Common.{◌≡◌, drop}
use Rattle.css_tokens.specs.Nested.{components_view}
use Rattle.custom_model.specs.References.{reference_in}
use Rattle.custom_props.proofs.references.name_in.Given as goal

-- only white space was passed over
abbrev pub invariant-loop-place : goal.invariant-loop-place
invariant-loop-place l =
    reference_in (components_view (drop l.place l.contents)) ≡ reference_in (components_view l.contents)
