use Rattle.std.proofs.Common.{rules, slice_get, ◌≡◌, ◌-◌, ◌<◌, ◌+◌, ℕ, suc, length, Some, None, sym, subst, arith}
use Rattle.page_model.specs.Trees.{text_size}
use Rattle.page_model.specs.Document.{ids, without_ids}
use Rattle.dom_arena.specs.Built.{Released, IsBranch, after_in}
use Rattle.dom_arena.specs.Slots.{target, place_at, first_link, child_number}
use Rattle.dom_arena.specs.Stores.{Kept}
use Rattle.dom_arena.specs.Views.{kept}
use Rattle.dom_arena.proofs.Releases.{Going, going-more, going-all, going-stops, tree-released}
use Rattle.dom_arena.proofs.release.+release.Goals as goal

pub release_children-returns-in_default : goal.release_children-returns-in_default
release_children-returns-in_default t c = λ ns b e.
    let none : target c.loop-index.at ≡ None = search rules in
    going-stops (kept c.args.store.now) (kept c.loop-index.store) (target c.loop-index.at) c.loop-index.index ns (c.loop-index.invariant ns b e) none

pub release_children-loop-index-preserved : goal.release_children-loop-index-preserved
release_children-loop-index-preserved t c = λ ns b e.
    let some : target c.loop-index.at ≡ Some c.in-Some.child = search rules in
    let next : target c.next_of-at.result ≡ after_in (place_at c.loop-index.store.slots.items c.in-Some.child) = search rules in
    let within : c.loop-index.index < length ns = omega (arith, c.loop-index-test.true, e) in
    subst (λ (o : _). Going (kept c.args.store.now) (kept c.release_tree.new.store) o (c.loop-index.index + 1) ns) (sym next)
    (going-more (kept c.args.store.now) (kept c.loop-index.store) (kept c.release_tree.new.store) (target c.args.first) (target c.loop-index.at) c.args.levels c.loop-index.index c.in-Some.child ns b
    (c.loop-index.invariant ns b e) within some c.release_tree.ensures)

pub release_children-returns : goal.release_children-returns
release_children-returns t c = λ ns b e.
    going-all (kept c.args.store.now) (kept c.loop-index.store) (target c.loop-index.at) c.loop-index.index ns (c.loop-index.invariant ns b e) (omega (arith, c.loop-index-test.false, e))

pub release_tree-returns-then-at-len : goal.release_tree-returns-then-at-len
release_tree-returns-then-at-len t c = λ n b.
    let l : c.args.levels ≡ suc (c.args.levels - 1) = omega (arith, c.if-levels-eq0.false) in
    let first : c.children_of-count.result.0 ≡ first_link (slice_get c.args.store.now.slots.items c.args.at) = search rules in
    let count : c.children_of-count.result.1 ≡ child_number (slice_get c.args.store.now.slots.items c.args.at) = search rules in
    let done = tree-released (kept c.args.store.now) (kept c.release_children.new.store) c.args.at (c.args.levels - 1) _ _ n (subst (λ (k : ℕ). IsBranch (kept c.args.store.now) c.args.at k n) l b)
    first count c.release_children.ensures in
    subst (λ (k : Kept). Released (kept c.args.store.now) k (ids n) (text_size (without_ids n))) (sym c.release.ensures) done.1

pub release_tree-returns-else-at-len : goal.release_tree-returns-else-at-len
release_tree-returns-else-at-len t c = λ n b.
    let l : c.args.levels ≡ suc (c.args.levels - 1) = omega (arith, c.if-levels-eq0.false) in
    let first : c.children_of-count.result.0 ≡ first_link (slice_get c.args.store.now.slots.items c.args.at) = search rules in
    let count : c.children_of-count.result.1 ≡ child_number (slice_get c.args.store.now.slots.items c.args.at) = search rules in
    let done = tree-released (kept c.args.store.now) (kept c.release_children.new.store) c.args.at (c.args.levels - 1) _ _ n (subst (λ (k : ℕ). IsBranch (kept c.args.store.now) c.args.at k n) l b)
    first count c.release_children.ensures in
    absurd (omega (arith, done.0, c.if-at-len.false, c.len.ensures))
