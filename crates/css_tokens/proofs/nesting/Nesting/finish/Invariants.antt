-- The components stay the same as brackets end with the tokens.
use Rattle.std.proofs.Common.{◌≡◌, length, []}
use Rattle.css_tokens.specs.inner.OpenBrackets.{with_rest, IsWithin}
use Rattle.css_tokens.proofs.nesting.Nesting.finish.Given as goal

abbrev pub invariant-loop-self : goal.invariant-loop-self
invariant-loop-self l = record {
  within : IsWithin l.self;
  same : with_rest l.self [] ≡ with_rest l.fn.self [];
}

abbrev pub decreases-loop-self : goal.decreases-loop-self
decreases-loop-self l = length l.self.open_brackets
