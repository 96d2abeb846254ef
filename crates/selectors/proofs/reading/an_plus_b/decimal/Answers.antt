use Rattle.std.proofs.Common.{arith, ◌≡◌, ◌∙◌, ◌+◌, ◌-◌, ◌*◌, min, get_or}
use Rattle.selectors.proofs.Decimals.{decimal-step}
use Rattle.selectors.proofs.reading.an_plus_b.decimal.Goals as goal

pub loop-digit-preserved : goal.loop-digit-preserved
loop-digit-preserved c =
    let next : c.min-value.result ≡ min 1000000000 (c.loop-digit.value * 10 + (get_or c.args.digits.now c.loop-digit.digit-index 0 - 48)) =
    omega arith in
    record {
      low = omega arith;
      number =
          decimal-step c.args.digits.now c.loop-digit.digit-index c.loop-digit.value c.min-value.result c.loop-digit-test.true next
          ∙ c.loop-digit.invariant.number;
    }
