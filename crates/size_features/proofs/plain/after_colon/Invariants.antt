-- What is after the colon in the rest is what is after it in all.
use Rattle.std.proofs.Common.{◌≡◌, drop}
use Rattle.css_tokens.specs.Nested.{components_view}
use Rattle.rules_model.specs.Declarations as declarations
use Rattle.size_features.proofs.plain.after_colon.Given as goal

abbrev pub invariant-loop-place : goal.invariant-loop-place
invariant-loop-place l =
    declarations.after_colon (components_view (drop l.place l.components))
    ≡ declarations.after_colon (components_view l.fn.components)
