-- Whether a node is another one or stands below it, by parents.
use Rattle.std.proofs.Common.{None, Some, ap, arith, false, inl, inr, option_map, refl, slice_get, subst, suc, sym, true, unwrap_or, ℕ, ◌+◌, ◌∙◌, ◌≡◌, ◌≤◌}
use Rattle.std.proofs.lemmas.Bool.{cases_Bool, false≢true}
use Rattle.std.proofs.lemmas.Option.{same_Some}
use Rattle.dom_arena.proofs.Attached.{children-are}
use Rattle.dom_arena.proofs.Climbs.{Climbs, climbs-more, climbs-none, level-one, no-parent, up-parent}
use Rattle.dom_arena.proofs.Docs.{slot-node, top-alone}
use Rattle.dom_arena.proofs.Renamed.{height-renamed}
use Rattle.dom_arena.specs.Docs.{IsDoc}
use Rattle.dom_arena.specs.Reading.{tree_in}
use Rattle.dom_arena.specs.Slots.{IsLive, id_at, target, up_link}
use Rattle.dom_arena.specs.Stores.{Kept}
use Rattle.page_laws.proofs.Find.{among-find, among-top, child-below, find-distinct, find-id, find-part, find-within, some-among}
use Rattle.page_laws.proofs.IsAmong.{among-is_among, is_among-true, not-among}
use Rattle.page_laws.proofs.Levels.{level-found, level-height}
use Rattle.page_laws.proofs.Options.{none-or-some, some-is}
use Rattle.page_laws.proofs.ParentOf.{listed-parent, parent-among, parent-child, parent-found, parent-node}
use Rattle.page_laws.proofs.Spliced.{part-apart}
use Rattle.page_laws.proofs.TreeAfterRemove.{id_of-removed, spliced-removed}
use Rattle.page_model.specs.Document.{AreDistinct, IsAmong, Node, find, height, id_of, ids, is_among, parent_in, parent_of}
use Rattle.page_model.specs.Edits.{is_within, level, tree_after_remove}
use Rattle.page_model.specs.declared.limits.TheConstants.{MAX_DEPTH}

pub within-node : (y j : ℕ) (n m : Node) → find y n ≡ Some m → is_within y j n ≡ is_among j (ids m)
within-node y j n m f = ap (λ o. unwrap_or (option_map (λ (x : Node). is_among j (ids x)) o) false) f

pub within-here : (y : ℕ) (n m : Node) → find y n ≡ Some m → is_within y y n ≡ true
within-here y n m f =
    within-node y y n m f ∙ among-is_among y (ids m) (subst (λ (z : ℕ). IsAmong z (ids m)) (sym (find-id y n m f)) (among-top m))

-- where the node is not the other one itself, it is below it when its parent is or is the other one
pub within-up : (y q p : ℕ) (n m : Node) → AreDistinct (ids n) → find y n ≡ Some m → (q ≡ y → ⊥) → parent_of q n ≡ Some p → is_within y q n ≡ is_within y p n
within-up y q p n m d f other up =
    within-node y q n m f ∙ (elim (cases_Bool (is_among q (ids m))) [
      | inl t ↦
          let a : IsAmong q (ids m) = is_among-true q (ids m) t in
          elim (none-or-some (parent_in q m)) [
            | inl none ↦ absurd (other (top-alone q m a none ∙ sym (find-id y n m f)))
            | inr x ↦
                let at : find (id_of x.0) m ≡ Some x.0 = parent-found q m x.0 (find-distinct y n m f d) x.1 in
                let there : find (id_of x.0) n ≡ Some x.0 = find-within y (id_of x.0) n m d f (some-among (id_of x.0) m x.0 at) ∙ at in
                let same : id_of x.0 ≡ p = same_Some (id_of x.0) p (sym (listed-parent n q (id_of x.0) d (children-are x.0 n (id_of x.0) q there (parent-child q m x.0 x.1))) ∙ up) in
                t ∙ sym (among-is_among p (ids m) (subst (λ (z : ℕ). IsAmong z (ids m)) same (parent-among q m x.0 x.1).1))
          ]
      | inr o ↦
          o ∙ sym (not-among p (ids m) (λ a.
          let x = parent-node n q p d up in
          let at : find p m ≡ Some x.0 = sym (find-within y p n m d f a) ∙ x.2 in
          false≢true (sym o ∙ among-is_among q (ids m) (find-part p m x.0 q at (child-below q x.0 (parent-child q n x.0 x.1))))))
    ] ∙ sym (within-node y p n m f))

-- the root stands below no other node
pub within-root : (y : ℕ) (n m : Node) → AreDistinct (ids n) → find y n ≡ Some m → (y ≡ id_of n → ⊥) → is_within y (id_of n) n ≡ false
within-root y n m d f other =
    within-node y (id_of n) n m f ∙ not-among (id_of n) (ids m) (λ a.
    part-apart (ids n) (ids m) (ids (tree_after_remove y n)) (spliced-removed y n m d f other) d (id_of n) a
    (subst (λ (z : ℕ). IsAmong z (ids (tree_after_remove y n))) (id_of-removed y n) (among-top (tree_after_remove y n))))

-- ---- on the way up

-- so many levels were climbed, and what holds of the node there holds of the node below
abbrev pub Rises : Kept → ℕ → ℕ → ℕ → ℕ → Type 0
Rises k at from up steps = Climbs k from up steps
    × ((x : ℕ) → IsDoc k x → IsLive k.slots at → IsLive k.slots from → is_within at from (tree_in k.slots x) ≡ is_within at up (tree_in k.slots x))

pub rises-none : (k : Kept) (at from : ℕ) → Rises k at from from 0
rises-none k at from = (climbs-none k from, λ x d h l. refl)

pub rises-more : (k : Kept) (at from up parent steps : ℕ) → Rises k at from up steps → (up ≡ at → ⊥) → target (up_link (slice_get k.slots up)) ≡ Some parent → Rises k at from parent (suc steps)
rises-more k at from up parent steps r other e = (
  climbs-more k from up parent steps r.0 e,
  λ x d h l.
      let m = slot-node k x (tree_in k.slots x) at d.tree h in
      let hangs : parent_of up (tree_in k.slots x) ≡ Some parent = sym (up-parent k x up d (r.0 x d l).0) ∙ e in
      r.1 x d h l ∙ within-up at up parent (tree_in k.slots x) m.0 d.tree.distinct m.1.0 other hangs,
)

pub rises-here : (k : Kept) (at from up steps x : ℕ) → Rises k at from up steps → up ≡ at → IsDoc k x → IsLive k.slots at → IsLive k.slots from → is_within at from (tree_in k.slots x) ≡ true
rises-here k at from up steps x r same d h l =
    let m = slot-node k x (tree_in k.slots x) at d.tree h in
    r.1 x d h l ∙ (ap (λ (z : ℕ). is_within at z (tree_in k.slots x)) same ∙ within-here at (tree_in k.slots x) m.0 m.1.0)

pub rises-top : (k : Kept) (at from up steps x : ℕ) → Rises k at from up steps → target (up_link (slice_get k.slots up)) ≡ None → IsDoc k x → IsLive k.slots at → IsLive k.slots from → (at ≡ x → ⊥)
    → is_within at from (tree_in k.slots x) ≡ false
rises-top k at from up steps x r e d h l other =
    let n : Node = tree_in k.slots x in
    let m = slot-node k x n at d.tree h in
    let live : IsLive k.slots up = (r.0 x d l).0 in
    let top : up ≡ id_of n = top-alone up n (d.tree.only up live) (no-parent up n (sym (up-parent k x up d live) ∙ e)) in
    r.1 x d h l ∙ (ap (λ (z : ℕ). is_within at z n) top ∙ within-root at n m.0 d.tree.distinct m.1.0 (λ q. other (q ∙ d.tree.at)))

-- no node is as far from the root
pub rises-past : (k : Kept) (at from up steps x : ℕ) → Rises k at from up steps → MAX_DEPTH ≤ steps → IsDoc k x → IsLive k.slots from → ⊥
rises-past k at from up steps x r far d l =
    let n : Node = tree_in k.slots x in
    let is = r.0 x d l in
    let high = some-is (level up n) (level-found up n ∙ among-find up n (d.tree.only up is.0)) in
    let deep : level from n ≡ Some (high.0 + steps) = is.1 ∙ ap (option_map (λ j. j + steps)) high.1 in
    let low : high.0 + steps ≤ height n = level-height from (high.0 + steps) n deep in
    let one : 1 ≤ high.0 = level-one up high.0 n high.1 in
    omega (arith, low, one, far, height-renamed (id_at k.slots) n, d.limits.low)
