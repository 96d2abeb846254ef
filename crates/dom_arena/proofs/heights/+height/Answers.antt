use Rattle.std.proofs.Common.{None, Some, ap, arith, rules, suc, ◌+◌, ◌-◌, ◌∙◌, ◌≡◌}
use Rattle.page_model.specs.Document.{height}
use Rattle.page_model.specs.declared.limits.TheConstants.{MAX_NODES}
use Rattle.dom_arena.specs.Reading.{below}
use Rattle.dom_arena.specs.Slots.{cells_of, target}
use Rattle.dom_arena.proofs.Deepest.{deepest-all, deepest-more, deepest-stops, height-none, height-whole, deepest_from}
use Rattle.dom_arena.proofs.heights.+height.Goals as goal

pub height-returns-then-levels-eq0 : goal.height-returns-then-levels-eq0
height-returns-then-levels-eq0 t c =
    let same : height (below (cells_of c.args.slots.now) MAX_NODES c.args.levels c.args.at) ≡ 1 =
    ap (λ k. height (below (cells_of c.args.slots.now) MAX_NODES k c.args.at)) c.if-levels-eq0.true ∙ height-none c.args.slots.now MAX_NODES c.args.at in
    omega (arith, same)

pub height-returns : goal.height-returns
height-returns t c =
    c.saturating_add.ensures
    ∙ height-whole c.args.slots.now (c.args.levels - 1) c.args.levels c.args.at c.heights.result (target c.first_of-first.result) (omega (arith, c.if-levels-eq0.false)) c.first_of-first.ensures c.heights.ensures

pub heights-returns-in_default : goal.heights-returns-in_default
heights-returns-in_default t c =
    let none : target c.loop-index.next ≡ None = search rules in
    deepest-stops c.args.slots.now c.args.levels (MAX_NODES - c.loop-index.index) c.loop-index.deepest (deepest_from c.args.slots.now c.args.levels MAX_NODES (target c.args.first)) (target c.loop-index.next) none
    c.loop-index.invariant.fits c.loop-index.invariant.same

pub heights-loop-index-preserved : goal.heights-loop-index-preserved
heights-loop-index-preserved t c =
    let some : target c.loop-index.next ≡ Some c.in-Some.child = search rules in
    let count : MAX_NODES - c.loop-index.index ≡ suc (MAX_NODES - (c.loop-index.index + 1)) = omega (arith, c.loop-index-test.true) in
    let same = deepest-more c.args.slots.now c.args.levels (MAX_NODES - (c.loop-index.index + 1)) (MAX_NODES - c.loop-index.index) c.in-Some.child c.loop-index.deepest c.height.result
    (deepest_from c.args.slots.now c.args.levels MAX_NODES (target c.args.first)) (target c.loop-index.next) (target c.next_of-next.result) some count c.height.ensures c.next_of-next.ensures c.loop-index.invariant.same in
    record { same = omega (arith, same, c.max-deepest.ensures); fits = omega (arith, c.max-deepest.type_inv) }

pub heights-returns : goal.heights-returns
heights-returns t c =
    deepest-all c.args.slots.now c.args.levels (MAX_NODES - c.loop-index.index) c.loop-index.deepest (deepest_from c.args.slots.now c.args.levels MAX_NODES (target c.args.first)) (target c.loop-index.next)
    (omega (arith, c.loop-index-test.false)) c.loop-index.invariant.fits c.loop-index.invariant.same
