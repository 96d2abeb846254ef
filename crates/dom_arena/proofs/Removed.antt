-- The document after a node was taken out.
use Rattle.std.proofs.Common.{Bool, IsSome, List, None, Some, [], ap, arith, eq-eqb, eqb-true, inl, inr, is_none, is_some, length, ne_eqb, option_map, slice_get, subst, sym, ℕ, ◌++◌, ◌==◌, ◌∙◌, ◌∷◌, ◌≡◌, ◌≤◌}
use Rattle.std.proofs.lemmas.Bool.{cases_Bool, eqb-false, false≢true}
use Rattle.std.proofs.lemmas.Option.{same_Some}
use Rattle.dom_arena.proofs.Chains.{chain-cut, end-among, front-among}
use Rattle.dom_arena.proofs.Detached.{Detaches, linked-detached, linked-taken}
use Rattle.dom_arena.proofs.Docs.{not-found, read-root, slot-found, slot-node, top-alone, tree-alone, tree-live}
use Rattle.dom_arena.proofs.Hooked.{Relinked, detaches, relinked-detached}
use Rattle.dom_arena.proofs.Kept.{live-same, live-slot-same, store-relinked}
use Rattle.dom_arena.proofs.Loads.{document_of, tree-doc}
use Rattle.dom_arena.proofs.Releases.{id-slot, linked-slots, place-slot, slot-of-body}
use Rattle.dom_arena.proofs.Renamed.{height-renamed, removed-renamed, rename-same}
use Rattle.dom_arena.specs.Built.{IsBranch, Released}
use Rattle.dom_arena.specs.Cells.{AreChained, AreLinked, IsLinked, Place, body_of, final, nowhere}
use Rattle.dom_arena.specs.Docs.{HoldsTree, IsDoc, document_in}
use Rattle.dom_arena.specs.Reading.{tree_in}
use Rattle.dom_arena.specs.Rename.{rename}
use Rattle.dom_arena.specs.Slots.{IsLive, cells_of, id_at, next_link, place_at, place_in, prev_link, table_at, target, up_link}
use Rattle.dom_arena.specs.Stores.{IsStore, Kept}
use Rattle.dom_arena.specs.Taking.{IsDocOf, detached_from, taken_out}
use Rattle.dom_arena.specs.Writes.{detached}
use Rattle.page_laws.proofs.Find.{among-top, find-distinct, find-id, some-among}
use Rattle.page_laws.proofs.IsAmong.{among-is_among, among-left, among-right, is_among-true}
use Rattle.page_laws.proofs.KeptLimits.{kept-removed}
use Rattle.page_laws.proofs.Levels.{find-height}
use Rattle.page_laws.proofs.Options.{none-or-some}
use Rattle.page_laws.proofs.ParentOf.{child-lower, parent-child, parent-found}
use Rattle.page_laws.proofs.Siblings.{children-distinct}
use Rattle.page_laws.proofs.Spliced.{Spliced, part-apart, spliced-among}
use Rattle.page_laws.proofs.TreeAfterRemove.{distinct-removed, id_of-removed, name_of-removed, node_count-removed, spliced-removed, text_size-removed}
use Rattle.page_laws.specs.Limits.{KeepsLimits}
use Rattle.page_model.specs.Document.{AreDistinct, IsAmong, Node, children_of, find, height, id_of, ids, ids_of, is_among, name_of, node_count, parent_in, without_ids}
use Rattle.page_model.specs.Edits.{document_after_remove, remove_causes, tree_after_remove}
use Rattle.page_model.specs.Refusals.{first_of}
use Rattle.page_model.specs.Trees.{text_size}
use Rattle.dom_arena.specs.declared.slot.Slot.{Slot}
use Rattle.page_model.specs.declared.limits.TheConstants.{MAX_DEPTH}
use Rattle.dom_arena.specs.Cells as ends
use Rattle.page_model.specs.declared.cause.Cause.TheVariants as cause

-- ---- where a node hangs

-- a list is cut at one of its items
among-cut : (y : ℕ) (zs : List ℕ) → IsAmong y zs → (xs : List ℕ) × ((ys : List ℕ) × (zs ≡ xs ++ y ∷ ys))
among-cut y [] a = absurd a
among-cut y (z ∷ zs) (inl e) = ([], (zs, ap (λ (x : ℕ). x ∷ zs) (sym e)))
among-cut y (z ∷ zs) (inr a) = let r = among-cut y zs a in (z ∷ r.0, (r.1.0, ap (λ (xs : List ℕ). z ∷ xs) r.1.1))

-- a node below the root, its parent and the children beside it
pub record HangsAt (slots : List Slot) (n : Node) (y : ℕ) : Type 0 where
  pub node : Node
  pub found : find y n ≡ Some node
  pub parent : Node
  pub parent_found : find (id_of parent) n ≡ Some parent
  pub front : List ℕ
  pub back : List ℕ
  pub list : ids_of (children_of parent) ≡ front ++ y ∷ back
  pub slot : Slot
  pub stands : slice_get slots y ≡ Some slot
  pub up : target slot.parent ≡ Some (id_of parent)
  pub prev : target slot.prev ≡ final None front
  pub next : target slot.next ≡ ends.front back None

pub hangs-at : (k : Kept) (x : ℕ) (n : Node) (y : ℕ) → HoldsTree k x n → IsLive k.slots y → (y ≡ x → ⊥) → HangsAt k.slots n y
hangs-at k x n y h live other =
    let a : IsAmong y (ids n) = h.only y live in
    let m = slot-node k x n y h live in
    let s = slot-of-body k.slots y (body_of m.0) m.1.1 in
    elim (none-or-some (parent_in y n)) [
      | inl none ↦ absurd (other (top-alone y n a none ∙ h.at))
      | inr p ↦
          let fp : find (id_of p.0) n ≡ Some p.0 = parent-found y n p.0 h.distinct p.1 in
          let cut = among-cut y (ids_of (children_of p.0)) (parent-child y n p.0 p.1) in
          let linked : IsLinked (cells_of k.slots) p.0 = h.linked (id_of p.0) p.0 fp in
          let chain = chain-cut (place_at k.slots) (id_of p.0) None cut.0 (y ∷ cut.1.0) None
          (subst (λ (zs : List ℕ). AreChained (place_at k.slots) (id_of p.0) None zs None) cut.1.1 linked.1) in
          let place : place_in s.0 ≡ record { up = Some (id_of p.0); before = final None cut.0; after = ends.front cut.1.0 None } =
          same_Some _ _ (sym (ap (option_map place_in) s.1) ∙ chain.1.0) in
          record {
            node = m.0;
            found = m.1.0;
            parent = p.0;
            parent_found = fp;
            front = cut.0;
            back = cut.1.0;
            list = cut.1.1;
            slot = s.0;
            stands = s.1;
            up = ap (λ (q : Place). q.up) place;
            prev = ap (λ (q : Place). q.before) place;
            next = ap (λ (q : Place). q.after) place;
          }
    ]

-- ---- the slots after the node was taken out of its parent's children

pub taken-is : (slots : List Slot) (n : Node) (y : ℕ) (w : HangsAt slots n y) → taken_out y slots ≡ detached (id_of w.parent) w.slot.prev w.slot.next slots
taken-is slots n y w =
    ap (λ o. detached_from (target (up_link o)) (prev_link o) (next_link o) slots) w.stands
    ∙ ap (λ o. detached_from o w.slot.prev w.slot.next slots) w.up

pub taken-detaches : (slots : List Slot) (n : Node) (y : ℕ) (w : HangsAt slots n y) → AreDistinct (ids n) → AreLinked (cells_of slots) n
    → Detaches (cells_of slots) (cells_of (taken_out y slots)) (id_of w.parent) y w.parent w.front w.back
taken-detaches slots n y w d h =
    subst (λ (ss : List Slot). Detaches (cells_of slots) (cells_of ss) (id_of w.parent) y w.parent w.front w.back) (sym (taken-is slots n y w))
    (detaches slots (id_of w.parent) y w.slot.prev w.slot.next w.parent w.front w.back w.list (children-distinct w.parent (find-distinct (id_of w.parent) n w.parent w.parent_found d)) w.prev w.next
    (h (id_of w.parent) w.parent w.parent_found).0)

pub taken-relinked : (slots : List Slot) (n : Node) (y : ℕ) (w : HangsAt slots n y) → Relinked slots (taken_out y slots)
taken-relinked slots n y w = subst (Relinked slots) (sym (taken-is slots n y w)) (relinked-detached slots (id_of w.parent) w.slot.prev w.slot.next)

-- the slots hold the tree without the node, and beside it the tree that was taken out
pub record HoldsTaken (k : Kept) (x : ℕ) (n : Node) (y : ℕ) (m : Node) : Type 0 where
  pub store : IsStore k
  pub distinct : AreDistinct (ids n)
  pub found : find y n ≡ Some m
  pub inner : y ≡ id_of n → ⊥
  pub rest : AreLinked (cells_of k.slots) (tree_after_remove y n)
  pub taken : AreLinked (cells_of k.slots) m
  pub at : id_of n ≡ x
  pub top : place_at k.slots x ≡ Some nowhere
  pub element : IsSome (name_of n)
  pub only : (z : ℕ) → IsLive k.slots z → IsAmong z (ids n)
  pub live : k.live ≡ node_count n
  pub code_points : k.code_points ≡ text_size (without_ids n)

pub taken-holds : (k : Kept) (x : ℕ) (n : Node) (y : ℕ) → HoldsTree k x n → (w : HangsAt k.slots n y) → (y ≡ x → ⊥)
    → HoldsTaken (record k { slots = taken_out y k.slots }) x n y w.node
taken-holds k x n y h w other =
    let out : Detaches (cells_of k.slots) (cells_of (taken_out y k.slots)) (id_of w.parent) y w.parent w.front w.back = taken-detaches k.slots n y w h.distinct h.linked in
    let r : Relinked k.slots (taken_out y k.slots) = taken-relinked k.slots n y w in
    let not_child : IsAmong x (ids_of (children_of w.parent)) → ⊥ = λ a. child-lower (id_of w.parent) x n w.parent h.distinct w.parent_found a (sym h.at) in
    record {
      store = store-relinked k (taken_out y k.slots) r h.store;
      distinct = h.distinct;
      found = w.found;
      inner = λ e. other (e ∙ h.at);
      rest = linked-detached (cells_of k.slots) (cells_of (taken_out y k.slots)) n w.parent (id_of w.parent) y w.front w.back h.distinct w.parent_found out h.linked;
      taken = linked-taken (cells_of k.slots) (cells_of (taken_out y k.slots)) n w.parent w.node (id_of w.parent) y w.front w.back h.distinct w.parent_found w.found out h.linked;
      at = h.at;
      top =
          out.unhooks.others x (λ e. other (sym e))
          (λ e. not_child (subst (IsAmong x) (sym w.list) (among-left x w.front (y ∷ w.back) (end-among x w.front e))))
          (λ e. not_child (subst (IsAmong x) (sym w.list) (among-right x w.front (y ∷ w.back) (inr (front-among x w.back e)))))
          ∙ h.top;
      element = h.element;
      only = λ z l. h.only z (live-same (taken_out y k.slots) k.slots z (sym (r.contents z)) l);
      live = h.live;
      code_points = h.code_points;
    }

-- what was taken out can be released
pub taken-branch : (k : Kept) (x : ℕ) (n : Node) (y levels : ℕ) (m : Node) → HoldsTaken k x n y m → height n ≤ levels → IsBranch k y levels m
taken-branch k x n y levels m t low = record {
  store = t.store;
  linked = t.taken;
  distinct = find-distinct y n m t.found t.distinct;
  at = sym (find-id y n m t.found);
  low = omega (arith, low, find-height y n m t.found);
  live = omega (arith, t.live, node_count-removed y n m t.distinct t.found t.inner);
  code_points = omega (arith, t.code_points, text_size-removed y n m t.distinct t.found t.inner);
}

-- after the release the rest is all
pub released-holds : (a b : Kept) (x : ℕ) (n : Node) (y : ℕ) (m : Node) → HoldsTaken a x n y m → Released a b (ids m) (text_size (without_ids m)) → HoldsTree b x (tree_after_remove y n)
released-holds a b x n y m t r =
    let rest : Node = tree_after_remove y n in
    let s : Spliced (ids n) (ids m) (ids rest) = spliced-removed y n m t.distinct t.found t.inner in
    let apart : (z : ℕ) → IsAmong z (ids rest) → IsAmong z (ids m) → ⊥ = λ z k j. part-apart (ids n) (ids m) (ids rest) s t.distinct z j k in
    let top : IsAmong x (ids rest) = subst (λ (z : ℕ). IsAmong z (ids rest)) (id_of-removed y n ∙ t.at) (among-top rest) in
    record {
      store = r.store;
      linked = linked-slots a.slots b.slots rest (λ z k. r.others z (apart z k)) t.rest;
      distinct = distinct-removed y n t.distinct;
      at = id_of-removed y n ∙ t.at;
      top = place-slot a.slots b.slots x (r.others x (apart x top)) ∙ t.top;
      element = ap is_some (name_of-removed y n) ∙ t.element;
      only = λ z l. elim (cases_Bool (is_among z (ids m))) [
        | inl k ↦ absurd (r.gone z (is_among-true z (ids m) k) l)
        | inr k ↦
            let out : IsAmong z (ids m) → ⊥ = λ j. false≢true (sym k ∙ among-is_among z (ids m) j) in
            elim (spliced-among z (ids n) (ids m) (ids rest) s (t.only z (live-slot-same b.slots a.slots z (sym (r.others z out)) l))) [
              | inl j ↦ absurd (out j)
              | inr j ↦ j
            ]
      ];
      live = omega (arith, t.live, r.live, node_count-removed y n m t.distinct t.found t.inner);
      code_points = omega (arith, t.code_points, r.code_points, text_size-removed y n m t.distinct t.found t.inner);
    }

-- ---- the document

-- the tree that is left, under its ids
rest-renamed : (k a b : Kept) (x : ℕ) (n : Node) (y : ℕ) (m : Node) → HoldsTree k x n → Relinked k.slots a.slots → HoldsTaken a x n y m → Released a b (ids m) (text_size (without_ids m))
    → rename (id_at b.slots) (tree_after_remove y n) ≡ tree_after_remove (id_at k.slots y) (rename (id_at k.slots) n)
rest-renamed k a b x n y m h l t r =
    let rest : Node = tree_after_remove y n in
    let s : Spliced (ids n) (ids m) (ids rest) = spliced-removed y n m t.distinct t.found t.inner in
    rename-same (id_at b.slots) (id_at k.slots) rest
    (λ z j. id-slot a.slots b.slots z (r.others z (λ i. part-apart (ids n) (ids m) (ids rest) s t.distinct z i j)) ∙ l.ids z)
    ∙ removed-renamed (id_at k.slots) y n (tree-alone k x n h y (some-among y n m t.found))

pub doc-removed : (k b : Kept) (x y : ℕ) → IsDoc k x → IsLive k.slots y → (y ≡ x → ⊥)
    → ((m : Node) → IsBranch (record k { slots = taken_out y k.slots }) y MAX_DEPTH m → Released (record k { slots = taken_out y k.slots }) b (ids m) (text_size (without_ids m)))
    → IsDocOf b x (document_after_remove (id_at k.slots y) (document_in k x))
doc-removed k b x y d live other release =
    let f : ℕ → ℕ = id_at k.slots in
    let n : Node = tree_in k.slots x in
    let a : Kept = record k { slots = taken_out y k.slots } in
    let w : HangsAt k.slots n y = hangs-at k x n y d.tree live other in
    let t : HoldsTaken a x n y w.node = taken-holds k x n y d.tree w other in
    let low : height n ≤ MAX_DEPTH = omega (arith, d.limits.low, height-renamed f n) in
    let r : Released a b (ids w.node) (text_size (without_ids w.node)) = release w.node (taken-branch a x n y MAX_DEPTH w.node t low) in
    let root : rename (id_at b.slots) (tree_after_remove y n) ≡ tree_after_remove (f y) (rename f n) = rest-renamed k a b x n y w.node d.tree (taken-relinked k.slots n y w) t r in
    let next : length b.table ≡ length k.table = r.given in
    let same : document_of b (tree_after_remove y n) ≡ document_after_remove (f y) (document_in k x) = λ j. record { root = root j; next_id = next j } in
    let limits : KeepsLimits (document_after_remove (f y) (document_in k x)) = kept-removed (f y) (document_in k x) d.limits in
    let is = tree-doc b x (tree_after_remove y n) (released-holds a b x n y w.node t r) (subst KeepsLimits (sym same) limits) in
    (is.1, is.0 ∙ same)

-- ---- what is refused

pub remove-none : (k : Kept) (x i : ℕ) → IsDoc k x → table_at k.table i ≡ None → first_of (remove_causes i (document_in k x)) ≡ Some cause.NoNode
remove-none k x i d e =
    let none : find i (document_in k x).root ≡ None = not-found k x (tree_in k.slots x) i d.tree e in
    ap (λ o. first_of ((is_none o, cause.NoNode) ∷ (i == id_of (document_in k x).root, cause.IsRoot) ∷ [])) none

remove-some : (k : Kept) (x i y : ℕ) → IsDoc k x → table_at k.table i ≡ Some y → first_of (remove_causes i (document_in k x)) ≡ first_of ((y == x, cause.IsRoot) ∷ [])
remove-some k x i y d e =
    let n : Node = tree_in k.slots x in
    let g = slot-found k x n i y d.tree e in
    let is = d.tree.store.found i y e in
    let root : id_of (document_in k x).root ≡ id_at k.slots x = sym (read-root k x d) in
    let top : IsLive k.slots x = tree-live k x n d.tree x (subst (λ (z : ℕ). IsAmong z (ids n)) d.tree.at (among-top n)) in
    let test : (i == id_of (document_in k x).root) ≡ (y == x) = elim (cases_Bool (y == x)) [
      | inl t ↦ eq-eqb i (id_of (document_in k x).root) (sym is.1 ∙ (ap (id_at k.slots) (eqb-true y x t) ∙ sym root)) ∙ sym t
      | inr o ↦
          ne_eqb i (id_of (document_in k x).root)
          (λ q. eqb-false y x o (same_Some y x (sym e ∙ (ap (table_at k.table) (q ∙ root) ∙ d.tree.store.listed x top))))
          ∙ sym o
    ] in
    λ j. first_of ((is_none (g.1.1.0 j), cause.NoNode) ∷ (test j, cause.IsRoot) ∷ [])

pub remove-root : (k : Kept) (x i y : ℕ) → IsDoc k x → table_at k.table i ≡ Some y → y ≡ x → first_of (remove_causes i (document_in k x)) ≡ Some cause.IsRoot
remove-root k x i y d e q = remove-some k x i y d e ∙ ap (λ (b : Bool). first_of ((b, cause.IsRoot) ∷ [])) (eq-eqb y x q)

pub remove-inner : (k : Kept) (x i y : ℕ) → IsDoc k x → table_at k.table i ≡ Some y → (y ≡ x → ⊥) → first_of (remove_causes i (document_in k x)) ≡ None
remove-inner k x i y d e q = remove-some k x i y d e ∙ ap (λ (b : Bool). first_of ((b, cause.IsRoot) ∷ [])) (ne_eqb y x q)
