use Rattle.std.proofs.Common.{rules, arith}
use Rattle.std.proofs.lemmas.Int.{ints}
use Rattle.box_sizes.proofs.sums.with_edges.Goals as goal

pub returns : goal.returns
returns c =
    let n0 = c.wide.ensures.number in
    let low0 = c.wide.ensures.fits.0 in
    let high0 = c.wide.ensures.fits.1 in
    let n1 = c.wide-2.ensures.number in
    let low1 = c.wide-2.ensures.fits.0 in
    let high1 = c.wide-2.ensures.fits.1 in
    let n2 = c.wide-3.ensures.number in
    let low2 = c.wide-3.ensures.fits.0 in
    let high2 = c.wide-3.ensures.fits.1 in
    let edges-low = c.requires.low in
    let edges-high = c.requires.high in
    omega (arith, ints)
