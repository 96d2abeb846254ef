-- What was taken up, with what is left, makes the components of all.
use Rattle.std.proofs.Common.{◌≡◌, drop}
use Rattle.css_model.specs.inner.Nesting.{nesting}
use Rattle.css_tokens.specs.inner.OpenBrackets.{with_rest, IsWithin}
use Rattle.css_tokens.proofs.nesting.nested.Given as goal

abbrev pub invariant-loop-token : goal.invariant-loop-token
invariant-loop-token l = record {
  within : IsWithin l.nesting;
  same : with_rest l.nesting (drop l.token-index l.tokens) ≡ nesting l.tokens;
}
