-- What was found is the containment of the component values from here on.
use Rattle.std.proofs.Common.{◌≡◌, ◌≤◌, length, drop}
use Rattle.css_tokens.specs.Nested.{components_view}
use Rattle.value_model.specs.Forms.{containment_of_words}
use Rattle.value_model.specs.Words.{words_of}
use Rattle.prop_table.proofs.containment.containment_of_words.Given as goal

abbrev pub invariant-loop-place : goal.invariant-loop-place
invariant-loop-place l = record {
  within : l.place ≤ length l.components;
  same : l.found ≡ containment_of_words (words_of (components_view (drop l.place l.components)));
}

abbrev pub decreases-loop-place : goal.decreases-loop-place
decreases-loop-place l = l.place
