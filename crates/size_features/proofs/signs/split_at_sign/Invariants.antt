-- The sides are those of the rest, with what was passed in front.
use Rattle.std.proofs.Common.{◌≡◌, drop, take}
use Rattle.css_tokens.specs.Nested.{components_view}
use Rattle.conditions_model.specs.SizeFeatures.{sides_of}
use Rattle.size_features.specs.inner.Signs.{in_front}
use Rattle.size_features.proofs.signs.split_at_sign.Given as goal

abbrev pub invariant-loop-place : goal.invariant-loop-place
invariant-loop-place l =
    in_front (take l.place l.components) (sides_of (components_view (drop l.place l.components)))
    ≡ sides_of (components_view l.fn.components)
