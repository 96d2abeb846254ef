use Rattle.std.proofs.Common.{◌≡◌, ◌∙◌, min, arith}
use Rattle.css_tokens.proofs.LimitedDecimals.{zeros-more, zeros-all}
use Rattle.css_tokens.proofs.decimals.with_zeros.Goals as goal

pub loop-n-preserved : goal.loop-n-preserved
loop-n-preserved c = record {
  below = omega (arith, c.min-value.ensures);
  same = c.min-value.ensures ∙ zeros-more c.args.limit c.loop-n.value c.args.value c.loop-n._n c.loop-n.invariant.same;
}

pub returns : goal.returns
returns c =
    let count : c.loop-n._n ≡ min c.args.zeros 15 = omega (arith, c.min-n-end.ensures, c.loop-n-test.false, c.loop-n.auto) in
    c.loop-n.invariant.same ∙ zeros-all c.args.limit c.args.value c.args.zeros c.loop-n._n c.requires.room count
