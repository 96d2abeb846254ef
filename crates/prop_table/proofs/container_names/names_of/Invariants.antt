-- The names so far, and those of the rest, are the names of all.
use Rattle.std.proofs.Common.{◌≡◌, drop}
use Rattle.css_tokens.specs.Nested.{components_view}
use Rattle.value_model.specs.Forms.{names_of}
use Rattle.value_model.specs.Words.{words_of}
use Rattle.prop_table.specs.inner.WordSteps.{after}
use Rattle.prop_table.proofs.container_names.names_of.Given as goal

abbrev pub invariant-loop-c : goal.invariant-loop-c
invariant-loop-c l =
    after l.names (names_of (words_of (components_view (drop l.c-index l.components))))
    ≡ names_of (words_of (components_view l.fn.components))
