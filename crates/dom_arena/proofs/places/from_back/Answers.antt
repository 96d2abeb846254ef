use Rattle.std.proofs.Common.{Some, arith, length, rules, subst, suc, ◌+◌, ◌-◌, ◌≡◌, ℕ}
use Rattle.dom_arena.specs.Between.{IsBetween}
use Rattle.dom_arena.specs.Slots.{place_at, target}
use Rattle.dom_arena.proofs.Walks.{between-prev, prev-there}
use Rattle.dom_arena.proofs.places.from_back.Goals as goal

pub returns-in_default : goal.returns-in_default
returns-in_default c = λ up xs h last w.
    let k : ℕ = length xs - suc c.loop-passed.passed in
    let one : length xs - c.loop-passed.passed ≡ suc k = omega (arith, w, c.loop-passed-test.true) in
    absurd (prev-there (place_at c.args.slots.now) up k xs c.loop-passed.prev c.loop-passed.next h (omega (arith, w, c.loop-passed-test.true))
    (subst (λ k. IsBetween c.loop-passed.prev c.loop-passed.next k xs) one (c.loop-passed.invariant up xs h last w)) (search rules))

pub loop-passed-preserved : goal.loop-passed-preserved
loop-passed-preserved c = λ up xs h last w.
    let k : ℕ = length xs - (c.loop-passed.passed + 1) in
    let one : length xs - c.loop-passed.passed ≡ suc k = omega (arith, w, c.loop-passed-test.true) in
    let prev : target c.loop-passed.prev ≡ Some c.in-Some.at = search rules in
    between-prev (place_at c.args.slots.now) up k c.in-Some.at xs c.loop-passed.prev c.loop-passed.next c.prev_of-prev.result h
    (omega (arith, w, c.loop-passed-test.true))
    (subst (λ k. IsBetween c.loop-passed.prev c.loop-passed.next k xs) one (c.loop-passed.invariant up xs h last w)) prev c.prev_of-prev.ensures

pub returns : goal.returns
returns c = λ up xs h last w.
    let all : length xs - c.loop-passed.passed ≡ length xs - c.args.behind = omega (arith, c.loop-passed-test.false, c.loop-passed.auto.passed-end) in
    subst (λ k. IsBetween c.loop-passed.prev c.loop-passed.next k xs) all (c.loop-passed.invariant up xs h last w)
