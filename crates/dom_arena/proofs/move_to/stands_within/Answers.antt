use Rattle.std.proofs.Common.{None, Some, arith, rules, slice_get, subst, sym, ℕ, ◌≡◌, ◌≤◌}
use Rattle.page_model.specs.declared.limits.TheConstants.{MAX_DEPTH}
use Rattle.dom_arena.specs.Slots.{target, up_link}
use Rattle.dom_arena.specs.Stores.{Kept}
use Rattle.dom_arena.specs.Views.{kept}
use Rattle.dom_arena.proofs.Within.{Rises, rises-none, rises-here, rises-more, rises-past, rises-top}
use Rattle.dom_arena.proofs.move_to.stands_within.Goals as goal

pub loop-above-init : goal.loop-above-init
loop-above-init c = rises-none (kept c.args.store.now) c.args.at c.args.from

pub returns-then-up-at : goal.returns-then-up-at
returns-then-up-at c = λ x d h l other.
    sym (rises-here (kept c.args.store.now) c.args.at c.args.from c.loop-above.up c.loop-above.above x c.loop-above.invariant c.if-up-at.true d h l)

pub returns-in-None : goal.returns-in-None
returns-in-None c =
    let k : Kept = kept c.args.store.now in
    let top : target (up_link (slice_get k.slots c.loop-above.up)) ≡ None = search rules in
    λ x d h l other. sym (rises-top k c.args.at c.args.from c.loop-above.up c.loop-above.above x c.loop-above.invariant top d h l other)

pub loop-above-preserved : goal.loop-above-preserved
loop-above-preserved c =
    let k : Kept = kept c.args.store.now in
    let hangs : target (up_link (slice_get k.slots c.loop-above.up)) ≡ Some c.in-Some.parent = search rules in
    subst (λ (n : ℕ). Rises k c.args.at c.args.from c.in-Some.parent n) (omega arith)
    (rises-more k c.args.at c.args.from c.loop-above.up c.in-Some.parent c.loop-above.above c.loop-above.invariant c.if-up-at.false hangs)

pub returns : goal.returns
returns c =
    let k : Kept = kept c.args.store.now in
    let all : MAX_DEPTH ≤ c.loop-above.above = omega (arith, c.loop-above-test.false) in
    λ x d h l other. absurd (rises-past k c.args.at c.args.from c.loop-above.up c.loop-above.above x c.loop-above.invariant all d l)
