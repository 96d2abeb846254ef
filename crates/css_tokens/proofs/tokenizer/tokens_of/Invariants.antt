use Rattle.std.proofs.Common.{◌≡◌, ◌++◌, length}
use Rattle.std.specs.Str.{chars, IsUtf8}
use Rattle.css_model.specs.TokenList.{tokens_from}
use Rattle.css_model.specs.inner.Pieces.{pieces}
use Rattle.css_tokens.specs.inner.Left.{IsWithin, tokens_left}
use Rattle.css_tokens.proofs.tokenizer.tokens_of.Given as goal

abbrev pub invariant-loop-c : goal.invariant-loop-c
invariant-loop-c l = record {
  utf8 : IsUtf8 l.left.text.now;
  room : IsWithin l.left;
  same : l.tokens ++ tokens_left l.left ≡ tokens_from 0 (pieces (chars l.cs));
}

abbrev pub decreases-loop-c : goal.decreases-loop-c
decreases-loop-c l = length (chars l.left.text.now)
