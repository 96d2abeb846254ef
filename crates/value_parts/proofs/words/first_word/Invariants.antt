-- The words of the rest are those of all.
use Rattle.std.proofs.Common.{◌≡◌, drop}
use Rattle.css_tokens.specs.Nested.{components_view}
use Rattle.value_model.specs.Words.{words_of}
use Rattle.value_parts.proofs.words.first_word.Given as goal

abbrev pub invariant-loop-place : goal.invariant-loop-place
invariant-loop-place l =
    words_of (components_view (drop l.place l.components)) ≡ words_of (components_view l.fn.components)
