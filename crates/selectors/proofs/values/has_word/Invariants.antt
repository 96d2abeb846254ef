use Rattle.std.proofs.Common.{◌≡◌}
use Rattle.std.specs.Str.{IsUtf8, chars}
use Rattle.std.specs.Str.Iter.{split_ascii_whitespace_text}
use Rattle.selectors_model.specs.Values.{has_word}
use Rattle.selectors.proofs.values.has_word.Given as goal

-- what is left has the word where the whole text has it
abbrev pub invariant-loop-word : goal.invariant-loop-word
invariant-loop-word l = record {
  can : (goal.iterator-loop-word).can_next l.words;
  ends : (goal.iterator-loop-word).is_finite l.words;
  text : IsUtf8 (split_ascii_whitespace_text l.words);
  same : has_word (chars (split_ascii_whitespace_text l.words)) (chars l.value) ≡ has_word (chars l.actual) (chars l.value);
}
