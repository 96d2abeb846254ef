use Rattle.std.proofs.Common.{◌≡◌, ◌≤◌, min, drop}
use Rattle.css_model.specs.Parts.{hex_value_after}
use Rattle.css_tokens.proofs.escapes.hex_value.Given as goal

abbrev pub invariant-loop-b : goal.invariant-loop-b
invariant-loop-b l = record {
  below : l.value ≤ 0x110000;
  same : min 0x110000 (hex_value_after l.value (drop l.b-index l.digits)) ≡ min 0x110000 (hex_value_after 0 l.digits);
}
