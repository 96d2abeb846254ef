-- What was found are the parts of the component values from here on.
use Rattle.std.proofs.Common.{◌≡◌, ◌≤◌, length, drop, option_map}
use Rattle.css_tokens.specs.Nested.{components_view}
use Rattle.value_model.specs.Shorthands.{border_parts}
use Rattle.value_model.specs.Words.{words_of}
use Rattle.prop_table.specs.inner.BorderViews.{parts_view}
use Rattle.prop_table.proofs.borders.border_parts.Given as goal

abbrev pub invariant-loop-place : goal.invariant-loop-place
invariant-loop-place l = record {
  within : l.place ≤ length l.components;
  same : option_map parts_view l.found ≡ border_parts (words_of (components_view (drop l.place l.components)));
}

abbrev pub decreases-loop-place : goal.decreases-loop-place
decreases-loop-place l = l.place
