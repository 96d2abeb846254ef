use Rattle.std.proofs.Common.{None, ap, arith, length, slice_get, subst, sym, ◌-◌, ◌∙◌, ◌≡◌, ℕ}
use Rattle.dom_arena.specs.Between.{IsBetween}
use Rattle.dom_arena.specs.Cells.{AreChained}
use Rattle.dom_arena.specs.Slots.{body_at, child_number, first_link, last_link, place_at, target}
use Rattle.dom_arena.proofs.Walks.{ends-of}
use Rattle.page_model.specs.Document.{children_of, ids_of}
use Rattle.dom_arena.proofs.places.place.Goals as goal

pub returns-then-index-behind : goal.returns-then-index-behind
returns-then-index-behind c = λ x at linked w.
    let ends = ends-of c.args.slots.now c.args.parent x (ap (body_at c.args.slots.now) (sym at) ∙ linked.0) in
    let first : c.children_of-count.result.0 ≡ first_link (slice_get c.args.slots.now c.args.parent) = c.children_of-count.ensures.first in
    c.from_front.ensures c.args.parent (ids_of (children_of x)) (subst (λ (p : ℕ). AreChained (place_at c.args.slots.now) p None (ids_of (children_of x)) None) at linked.1)
    (ap target first ∙ ends.first) w

pub returns-else-index-behind : goal.returns-else-index-behind
returns-else-index-behind c = λ x at linked w.
    let ends = ends-of c.args.slots.now c.args.parent x (ap (body_at c.args.slots.now) (sym at) ∙ linked.0) in
    let last : c.last_of.result ≡ last_link (slice_get c.args.slots.now c.args.parent) = c.last_of.ensures in
    let count : c.children_of-count.result.1 ≡ child_number (slice_get c.args.slots.now c.args.parent) = c.children_of-count.ensures.count in
    let behind : c.saturating_sub-behind.result ≡ length (ids_of (children_of x)) - c.args.index = omega (arith, c.saturating_sub-behind.ensures, count, ends.count) in
    let index : length (ids_of (children_of x)) - c.saturating_sub-behind.result ≡ c.args.index = omega (arith, behind, w) in
    subst (λ k. IsBetween c.from_back.result.0 c.from_back.result.1 k (ids_of (children_of x))) index
    (c.from_back.ensures c.args.parent (ids_of (children_of x)) (subst (λ (p : ℕ). AreChained (place_at c.args.slots.now) p None (ids_of (children_of x)) None) at linked.1)
    (ap target last ∙ ends.last) (omega (arith, behind)))
