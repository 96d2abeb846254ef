use Rattle.std.proofs.Common.{None, Some, ap, arith, rules, slice_get, subst, ℕ, ◌∙◌, ◌≡◌, ◌≤◌}
use Rattle.page_model.specs.declared.limits.TheConstants.{MAX_DEPTH}
use Rattle.dom_arena.specs.Slots.{target, up_link}
use Rattle.dom_arena.specs.Stores.{Kept}
use Rattle.dom_arena.specs.Views.{kept}
use Rattle.dom_arena.proofs.Climbs.{Climbs, climbs-last, climbs-more, climbs-top}
use Rattle.dom_arena.proofs.levels.level.Goals as goal

pub returns-in-None : goal.returns-in-None
returns-in-None c =
    let k : Kept = kept c.args.store.now in
    let top : target (up_link (slice_get k.slots c.loop-above.up)) ≡ None = search rules in
    λ x d h. climbs-top k c.args.at c.loop-above.up c.loop-above.above x c.loop-above.invariant top d h ∙ ap Some (omega arith)

pub loop-above-preserved : goal.loop-above-preserved
loop-above-preserved c =
    let k : Kept = kept c.args.store.now in
    let hangs : target (up_link (slice_get k.slots c.loop-above.up)) ≡ Some c.in-Some.parent = search rules in
    subst (λ (n : ℕ). Climbs k c.args.at c.in-Some.parent n) (omega arith) (climbs-more k c.args.at c.loop-above.up c.in-Some.parent c.loop-above.above c.loop-above.invariant hangs)

pub returns : goal.returns
returns c =
    let k : Kept = kept c.args.store.now in
    let all : MAX_DEPTH ≤ c.loop-above.above = omega (arith, c.loop-above-test.false) in
    λ x d h. climbs-last k c.args.at c.loop-above.up c.loop-above.above x c.loop-above.invariant all d h
