-- The pieces are those of the rest, with what was passed in front.
use Rattle.std.proofs.Common.{◌≡◌, drop, take}
use Rattle.css_tokens.specs.Nested.{components_view}
use Rattle.conditions_model.specs.MediaQueries.{between_commas}
use Rattle.media_conditions.specs.inner.Commas.{in_front}
use Rattle.media_conditions.proofs.commas.split_at_comma.Given as goal

abbrev pub invariant-loop-place : goal.invariant-loop-place
invariant-loop-place l =
    in_front (take l.place l.components) (between_commas (components_view (drop l.place l.components)))
    ≡ between_commas (components_view l.fn.components)
