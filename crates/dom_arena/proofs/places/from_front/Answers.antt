use Rattle.std.proofs.Common.{Some, arith, rules, subst, suc, ℕ, ◌+◌, ◌≡◌}
use Rattle.dom_arena.specs.Between.{IsBetween}
use Rattle.dom_arena.specs.Slots.{place_at, target}
use Rattle.dom_arena.proofs.Walks.{between-next, next-there}
use Rattle.dom_arena.proofs.places.from_front.Goals as goal

pub returns-in_default : goal.returns-in_default
returns-in_default c = λ up xs h first w.
    absurd (next-there (place_at c.args.slots.now) up c.loop-passed.passed xs c.loop-passed.prev c.loop-passed.next h (omega (arith, w, c.loop-passed-test.true))
    (c.loop-passed.invariant up xs h first w) (search rules))

pub loop-passed-preserved : goal.loop-passed-preserved
loop-passed-preserved c = λ up xs h first w.
    let next : target c.loop-passed.next ≡ Some c.in-Some.at = search rules in
    let more : suc c.loop-passed.passed ≡ c.loop-passed.passed + 1 = omega arith in
    subst (λ (k : ℕ). IsBetween c.loop-passed.next c.next_of-next.result k xs) more
    (between-next (place_at c.args.slots.now) up c.loop-passed.passed c.in-Some.at xs c.loop-passed.prev c.loop-passed.next c.next_of-next.result h
    (omega (arith, w, c.loop-passed-test.true)) (c.loop-passed.invariant up xs h first w) next c.next_of-next.ensures)

pub returns : goal.returns
returns c = λ up xs h first w.
    let all : c.loop-passed.passed ≡ c.args.index = omega (arith, c.loop-passed-test.false, c.loop-passed.auto.passed-end) in
    subst (λ k. IsBetween c.loop-passed.prev c.loop-passed.next k xs) all (c.loop-passed.invariant up xs h first w)
