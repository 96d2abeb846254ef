use Rattle.std.proofs.Common.{◌≡◌, ◌≤◌, min, drop}
use Rattle.css_model.specs.Numerals.{decimal_after}
use Rattle.css_tokens.proofs.decimals.decimal_within.Given as goal

abbrev pub invariant-loop-b : goal.invariant-loop-b
invariant-loop-b l = record {
  below : l.value ≤ l.limit;
  same : min l.limit (decimal_after l.value (drop l.b-index l.digits)) ≡ min l.limit (decimal_after l.initial.value l.digits);
}
