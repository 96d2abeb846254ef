-- The rest has the first word of all.
use Rattle.std.proofs.Common.{◌≡◌, drop}
use Rattle.css_tokens.specs.Nested.{components_view}
use Rattle.media_conditions.specs.inner.Words.{first_of, media_words}
use Rattle.media_conditions.proofs.words.front_of.Given as goal

abbrev pub invariant-loop-place : goal.invariant-loop-place
invariant-loop-place l =
    first_of (media_words (components_view (drop l.place l.components)))
    ≡ first_of (media_words (components_view l.fn.components))
