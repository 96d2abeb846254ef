use Rattle.std.proofs.Common.{◌≡◌, ◌∙◌, ◌*◌, ◌-◌, ◌+◌, min, get_or, arith}
use Rattle.css_tokens.proofs.LimitedDecimals.{decimal-more}
use Rattle.css_tokens.proofs.decimals.decimal_within.Goals as goal

pub loop-b-preserved : goal.loop-b-preserved
loop-b-preserved c =
    let next : c.min-value.result ≡ min (c.loop-b.value * 10 + (get_or c.args.digits.now c.loop-b.b-index 0 - 48)) c.args.limit =
    omega (arith, c.min-value.ensures, c.digit_value.ensures.value) in
    record {
      below = omega (arith, c.min-value.ensures);
      same = decimal-more c.args.limit c.loop-b.value c.min-value.result c.args.digits.now c.loop-b.b-index 0 c.loop-b-test.true next ∙ c.loop-b.invariant.same;
    }
