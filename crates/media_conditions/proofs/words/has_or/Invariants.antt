-- The rest has an `or` where all have one.
use Rattle.std.proofs.Common.{◌≡◌, drop}
use Rattle.std.specs.List.{list_any}
use Rattle.css_tokens.specs.Nested.{components_view}
use Rattle.media_conditions.specs.inner.Words.{is_or, media_words}
use Rattle.media_conditions.proofs.words.has_or.Given as goal

abbrev pub invariant-loop-component : goal.invariant-loop-component
invariant-loop-component l =
    list_any is_or (media_words (components_view (drop l.component-index l.components)))
    ≡ list_any is_or (media_words (components_view l.fn.components))
