use Rattle.std.proofs.Common.{◌≡◌, ◌≤◌, ◌*◌, ◌^◌, min}
use Rattle.css_tokens.proofs.decimals.with_zeros.Given as goal

abbrev pub invariant-loop-n : goal.invariant-loop-n
invariant-loop-n l = record {
  below : l.value ≤ l.limit;
  same : l.value ≡ min l.limit (l.initial.value * 10 ^ l._n);
}
