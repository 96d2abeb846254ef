-- The digits so far, and then what is left of them, write the number.
use Rattle.std.proofs.Common.{◌≡◌, ◌≤◌, min, drop}
use Rattle.css_model.specs.Numerals.{decimal_after}
use Rattle.selectors.proofs.reading.an_plus_b.decimal.Given as goal

abbrev pub invariant-loop-digit : goal.invariant-loop-digit
invariant-loop-digit l = record {
  low : l.value ≤ 1000000000;
  number : min 1000000000 (decimal_after l.value (drop l.digit-index l.digits)) ≡ min 1000000000 (decimal_after 0 l.digits);
}
