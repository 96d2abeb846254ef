use Rattle.std.proofs.Common.{◌^◌, ◌<◌, length, rules}
use Rattle.css_model.specs.Numerals.{decimal_after}
use Rattle.css_tokens.proofs.Points.{reduced-near, reduced-far}
use Rattle.css_tokens.proofs.magnitudes.reduced.Goals as goal

pub returns-then-places-lt-MILLIONTHS : goal.returns-then-places-lt-MILLIONTHS
returns-then-places-lt-MILLIONTHS c =
    reduced-near (10 ^ 15) c.args.integer.now c.args.fraction.now (decimal_after 0 c.args.exponent.now) c.places_of-places.result c.moved_right.result c.requires.fraction c.places_of-places.ensures c.if-places-lt-MILLIONTHS.true c.moved_right.ensures

pub returns : goal.returns
returns c =
    let short : length c.args.integer.now < 2 ^ 64 = search rules in
    reduced-far (10 ^ 15) c.args.integer.now c.args.fraction.now (decimal_after 0 c.args.exponent.now) c.places_of-places.result c.moved_left.result c.requires.integer c.requires.fraction short c.places_of-places.ensures c.if-places-lt-MILLIONTHS.false c.moved_left.ensures
