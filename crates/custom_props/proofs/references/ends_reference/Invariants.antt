use Rattle.std.proofs.Common.{◌≡◌, drop}
use Rattle.css_model.specs.Classes.{Text}
use Rattle.css_tokens.specs.Nested.{components_view}
use Rattle.custom_props.specs.inner.Reading.{named_before}
use Rattle.custom_props.proofs.references.ends_reference.Given as goal

-- only white space was passed over
abbrev pub invariant-loop-place : goal.invariant-loop-place
invariant-loop-place l =
    (name : Text) → named_before name (components_view (drop l.place l.rest))
    ≡ named_before name (components_view l.rest)
