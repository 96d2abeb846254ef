use Rattle.std.proofs.Common.{◌^◌}
use Rattle.css_tokens.proofs.Points.{read-right}
use Rattle.css_tokens.proofs.magnitudes.moved_right.Goals as goal

pub returns : goal.returns
returns c =
    read-right (10 ^ 15) c.args.integer.now c.args.fraction.now c.args.places c.min-kept.result c.decimal_within-value.result c.decimal_within-value-2.result c.with_zeros.result
    c.min-kept.ensures c.decimal_within-value.ensures c.decimal_within-value-2.ensures c.with_zeros.ensures
