-- What was passed is, without white space at its end, what is before `end`.
use Rattle.std.proofs.Common.{◌≡◌, ◌≤◌, take}
use Rattle.css_tokens.specs.Nested.{components_view}
use Rattle.rules_model.specs.ComponentLists.{without_end_whitespace}
use Rattle.size_features.proofs.white_space.trim_end.Given as goal

abbrev pub invariant-loop-place : goal.invariant-loop-place
invariant-loop-place l = record {
  passed : l.end ≤ l.place;
  same : without_end_whitespace (components_view (take l.place l.components))
      ≡ components_view (take l.end l.components);
}
