use Rattle.std.proofs.Common.{◌^◌, ◌<◌, length, arith, rules}
use Rattle.css_model.specs.Numerals.{decimal_after}
use Rattle.css_tokens.proofs.Points.{enlarged-is}
use Rattle.css_tokens.proofs.magnitudes.enlarged.Goals as goal

pub returns : goal.returns
returns c =
    let short : length c.args.fraction.now < 2 ^ 64 = search rules in
    enlarged-is (10 ^ 15) c.args.integer.now c.args.fraction.now (decimal_after 0 c.args.exponent.now) c.places_of.result c.moved_right.result (omega arith) c.requires.fraction short c.places_of.ensures c.moved_right.ensures
