use Rattle.std.proofs.Common.{rules, arith, ◌≡◌, sym, subst, ℤ, ◌≤ℤ◌, neg_ℤ, pos}
use Rattle.std.proofs.lemmas.Int.{ints}
use Rattle.margin_flow.specs.inner.Running.{contents_after, next_offset}
use Rattle.margin_flow.proofs.PlacingSteps.{item-fits, goes-step, next-step}
use Rattle.margin_flow.proofs.placing.go_through.Goals as goal

pub next_offset-offset-requires : goal.next_offset-offset-requires
next_offset-offset-requires c =
    (item-fits c.args.u.now c.args.items.now c.loop-i.i c.loop-i.offsets c.loop-i.contents c.index-items-i.result
    c.loop-i-test.true c.index-items-i.is c.loop-i.invariant).edge

pub contents_after-contents-requires-clause-offset_low : goal.contents_after-contents-requires-clause-offset_low
contents_after-contents-requires-clause-offset_low c =
    let fits = item-fits c.args.u.now c.args.items.now c.loop-i.i c.loop-i.offsets c.loop-i.contents c.index-items-i.result
    c.loop-i-test.true c.index-items-i.is c.loop-i.invariant in
    let low = fits.offset_low in
    let is = c.next_offset-offset.ensures in
    omega (arith, ints)

pub contents_after-contents-requires-clause-offset_high : goal.contents_after-contents-requires-clause-offset_high
contents_after-contents-requires-clause-offset_high c =
    let fits = item-fits c.args.u.now c.args.items.now c.loop-i.i c.loop-i.offsets c.loop-i.contents c.index-items-i.result
    c.loop-i-test.true c.index-items-i.is c.loop-i.invariant in
    let high = fits.offset_high in
    let is = c.next_offset-offset.ensures in
    omega (arith, ints)

pub contents_after-contents-requires-clause-height_high : goal.contents_after-contents-requires-clause-height_high
contents_after-contents-requires-clause-height_high c =
    (item-fits c.args.u.now c.args.items.now c.loop-i.i c.loop-i.offsets c.loop-i.contents c.index-items-i.result
    c.loop-i-test.true c.index-items-i.is c.loop-i.invariant).height_high

pub loop-i-preserved : goal.loop-i-preserved
loop-i-preserved c =
    next-step c.args.u.now c.args.items.now c.loop-i.i c.loop-i.offsets c.loop-i.contents c.index-items-i.result
    c.next_offset-offset.result c.push.new.self c.contents_after-contents.result
    c.loop-i-test.true c.index-items-i.is c.next_offset-offset.ensures (search rules) (search rules) c.loop-i.invariant
