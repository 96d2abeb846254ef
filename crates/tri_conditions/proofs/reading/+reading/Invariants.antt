-- What was read and the words after it are the condition of all.
use Rattle.std.proofs.Common.{◌≡◌, drop}
use Rattle.conditions_model.specs.Conditions.{all_words_of, condition_of}
use Rattle.css_tokens.specs.Nested.{components_view}
use Rattle.tri_conditions.specs.inner.Drafts.{condition_after}
use Rattle.tri_conditions.proofs.reading.+reading.Given as goal

abbrev pub invariant-read_condition_slice-loop-component :
    goal.invariant-read_condition_slice-loop-component
invariant-read_condition_slice-loop-component g l =
    condition_after l.draft
    (all_words_of (g.R.ReadFeature.reads l.fn.r) (components_view (drop l.component-index l.c)))
    ≡ condition_of (g.R.ReadFeature.reads l.fn.r) (components_view l.fn.c)
