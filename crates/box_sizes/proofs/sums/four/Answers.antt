use Rattle.std.proofs.Common.{rules, arith}
use Rattle.std.proofs.lemmas.Int.{ints}
use Rattle.box_sizes.proofs.sums.four.Goals as goal

pub returns-clause-sum : goal.returns-clause-sum
returns-clause-sum c =
    let n0 = c.wide.ensures.number in
    let low0 = c.wide.ensures.fits.0 in
    let high0 = c.wide.ensures.fits.1 in
    let n1 = c.wide-2.ensures.number in
    let low1 = c.wide-2.ensures.fits.0 in
    let high1 = c.wide-2.ensures.fits.1 in
    let n2 = c.wide-3.ensures.number in
    let low2 = c.wide-3.ensures.fits.0 in
    let high2 = c.wide-3.ensures.fits.1 in
    let n3 = c.wide-4.ensures.number in
    let low3 = c.wide-4.ensures.fits.0 in
    let high3 = c.wide-4.ensures.fits.1 in
    omega (arith, ints)
