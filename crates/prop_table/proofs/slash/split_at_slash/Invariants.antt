-- What is before the slash is what was passed, and then what is before it in the rest.
use Rattle.std.proofs.Common.{◌≡◌, ◌++◌, take, drop}
use Rattle.css_tokens.specs.Nested.{components_view}
use Rattle.value_model.specs.Shorthands.{before_slash, after_slash}
use Rattle.value_model.specs.Words.{words_of}
use Rattle.prop_table.proofs.slash.split_at_slash.Given as goal

abbrev pub invariant-loop-place : goal.invariant-loop-place
invariant-loop-place l = record {
  before : words_of (components_view (take l.place l.components)) ++ before_slash (words_of (components_view (drop l.place l.components)))
      ≡ before_slash (words_of (components_view l.fn.components));
  after : after_slash (words_of (components_view (drop l.place l.components))) ≡ after_slash (words_of (components_view l.fn.components));
}
