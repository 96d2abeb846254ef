use Rattle.std.proofs.Common.{◌≡◌, ◌∙◌, ap, ◌*◌, ◌+◌, min, get_or, arith}
use Rattle.css_model.specs.Parts.{hex_digit_value}
use Rattle.css_tokens.proofs.HexValues.{hex-more}
use Rattle.css_tokens.proofs.escapes.hex_value.Goals as goal

pub loop-b-preserved : goal.loop-b-preserved
loop-b-preserved c =
    let digit : c.hex_digit_value.result ≡ hex_digit_value (get_or c.args.digits.now c.loop-b.b-index 0) = c.hex_digit_value.ensures.value in
    let next : c.min-value.result ≡ min (c.loop-b.value * 16 + hex_digit_value (get_or c.args.digits.now c.loop-b.b-index 0)) 0x110000 = c.min-value.ensures ∙ ap (λ d. min (c.loop-b.value * 16 + d) 0x110000) digit in
    record {
      below = omega (arith, c.min-value.ensures);
      same = hex-more 0x110000 c.loop-b.value c.min-value.result c.args.digits.now c.loop-b.b-index 0 c.loop-b-test.true next ∙ c.loop-b.invariant.same;
    }
