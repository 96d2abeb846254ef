-- The document after a node was given another place.
use Rattle.std.proofs.Common.{IsSome, List, None, Option, Some, ap, arith, drop, false, is_none, is_some, length, ltb-false, nat_lt, option_and_then, option_map, refl, subst, sym, take, unwrap_or, ℕ, ◌+◌, ◌<◌, ◌==◌, ◌||◌, ◌∙◌, ◌≡◌, ◌≤◌}
use Rattle.std.proofs.lemmas.Bool.{eqb-false, false≢true}
use Rattle.std.proofs.lemmas.Option.{same_Some}
use Rattle.dom_arena.proofs.Attached.{Attaches, among-drop, among-take, linked-attached}
use Rattle.dom_arena.proofs.Builds.{children-count}
use Rattle.dom_arena.proofs.Chains.{end-among, front-among}
use Rattle.dom_arena.proofs.Docs.{slot-node, tree-alone}
use Rattle.dom_arena.proofs.Hooked.{Relinked, attaches, relinked-attached}
use Rattle.dom_arena.proofs.Kept.{live-same, live-small, live-within, store-relinked}
use Rattle.dom_arena.proofs.Loads.{document_of, part-length, tree-doc}
use Rattle.dom_arena.proofs.MoveCauses.{Passes, passes}
use Rattle.dom_arena.proofs.RenamedLimits.{limits-renamed, limits-unnamed}
use Rattle.page_laws.proofs.MovedLimits.{kept-moved}
use Rattle.dom_arena.proofs.Releases.{linked-live}
use Rattle.dom_arena.proofs.Removed.{HangsAt, HoldsTaken, hangs-at, taken-holds, taken-relinked}
use Rattle.dom_arena.proofs.Renamed.{find-renamed, inserted-renamed, removed-renamed, rename-same}
use Rattle.dom_arena.proofs.Within.{within-node}
use Rattle.dom_arena.specs.Cells.{IsLinked}
use Rattle.dom_arena.specs.Docs.{HoldsTree, IsDoc, document_in}
use Rattle.dom_arena.specs.Moving.{IsHung, slot_document}
use Rattle.dom_arena.specs.Reading.{tree_in}
use Rattle.dom_arena.specs.Rename.{IsAlone, rename}
use Rattle.dom_arena.specs.Slots.{IsLive, body_at, cells_of, id_at}
use Rattle.dom_arena.specs.Stores.{Kept}
use Rattle.dom_arena.specs.Taking.{IsDocOf, taken_out}
use Rattle.dom_arena.specs.Writes.{attached}
use Rattle.page_laws.proofs.Find.{among-find, among-top, child-below, find-distinct, find-id, find-part, some-among}
use Rattle.page_laws.proofs.IsAmong.{among-is_among}
use Rattle.page_laws.proofs.Levels.{level-found}
use Rattle.page_laws.proofs.Options.{some-is}
use Rattle.page_laws.proofs.ParentOf.{child-lower, child_ids-found}
use Rattle.page_laws.proofs.Siblings.{children-distinct}
use Rattle.page_laws.proofs.Spliced.{part-apart}
use Rattle.page_laws.proofs.TreeAfterInsert.{distinct-inserted, id_of-inserted, name_of-inserted}
use Rattle.page_laws.proofs.TreeAfterMove.{among-moved, fits-left, move-is, node_count-moved, parent-stays, text_size-moved}
use Rattle.page_laws.proofs.TreeAfterRemove.{among-kept, distinct-removed, id_of-removed, name_of-removed, node_count-removed, spliced-removed}
use Rattle.page_laws.specs.Ids.{CanMove}
use Rattle.page_laws.specs.Limits.{KeepsLimits}
use Rattle.page_model.specs.Document.{AreDistinct, IsAmong, Node, children_of, find, height, id_of, ids, ids_of, name_at, name_of, node_count, without_ids}
use Rattle.page_model.specs.Edits.{child_count, document_after_move, height_at, is_within, level, move_causes, tree_after_insert, tree_after_move, tree_after_remove}
use Rattle.page_model.specs.Refusals.{first_of}
use Rattle.page_model.specs.Trees.{Text, text_size}
use Rattle.dom_arena.specs.declared.slot.Slot.{Slot}
use Rattle.page_model.specs.declared.limits.TheConstants.{MAX_DEPTH}

-- the node can be moved below the element in the slot `q`, and stands low enough there
pub record MayMove (k : Kept) (x y q index : ℕ) (m : Node) : Type 0 where
  pub can : CanMove y q m (tree_in k.slots x)
  pub has_place : index ≤ child_count q (tree_after_remove y (tree_in k.slots x))
  pub above : ℕ
  pub at_level : level q (tree_in k.slots x) ≡ Some above
  pub low : above + height m ≤ MAX_DEPTH

height-found : (y : ℕ) (n m : Node) → find y n ≡ Some m → height_at y n ≡ height m
height-found y n m f = ap (λ o. unwrap_or (option_map height o) 0) f

pub may-move : (k : Kept) (x y q index : ℕ) (m : Node) → IsDoc k x → find y (tree_in k.slots x) ≡ Some m → IsLive k.slots q → first_of (move_causes y q index (slot_document k x)) ≡ None
    → MayMove k x y q index m
may-move k x y q index m d f live h =
    let n : Node = tree_in k.slots x in
    let p : Passes (is_none (find y n) || is_none (find q n)) (y == id_of n) (is_none (name_at q n)) (is_within y q n) (nat_lt (child_count q (tree_after_remove y n)) index)
    (nat_lt MAX_DEPTH (unwrap_or (level q n) 0 + height_at y n)) = passes _ _ _ _ _ _ h in
    let l = some-is (level q n) (level-found q n ∙ among-find q n (d.tree.only q live)) in
    let at : unwrap_or (level q n) 0 ≡ l.0 = ap (λ o. unwrap_or o 0) l.1 in
    let low : unwrap_or (level q n) 0 + height_at y n ≤ MAX_DEPTH = ltb-false MAX_DEPTH (unwrap_or (level q n) 0 + height_at y n) p.low in
    record {
      can = record {
        distinct = d.tree.distinct;
        found = f;
        not_root = eqb-false y (id_of n) p.inner;
        element = not-none (name_at q n) p.element;
        outside = λ a. false≢true (sym p.outside ∙ (within-node y q n m f ∙ among-is_among q (ids m) a));
      };
      has_place = ltb-false (child_count q (tree_after_remove y n)) index p.index;
      above = l.0;
      at_level = l.1;
      low = omega (arith, at, height-found y n m f, low);
    }
  where
    not-none : (o : Option Text) → is_none o ≡ false → IsSome o
    not-none None e = absurd (false≢true (sym e))
    not-none (Some t) e = refl

-- ---- the slots after the node was hung again

pub record Rehung (a : Kept) (slots : List Slot) (n : Node) (y q index : ℕ) (m : Node) : Type 0 where
  pub parent : Node
  pub found : find q (tree_after_remove y n) ≡ Some parent
  pub hangs : Attaches (cells_of a.slots) (cells_of slots) q index m parent
  pub relinked : Relinked a.slots slots

by-hung : (a : Kept) (slots : List Slot) (n m p : Node) (y q index : ℕ) (hung : IsHung a.slots slots q y index (ids_of (children_of p))) → find q (tree_after_remove y n) ≡ Some p
    → Attaches (cells_of a.slots) (cells_of (attached q y hung.prev hung.next a.slots)) q index m p → Rehung a slots n y q index m
by-hung a slots n m p y q index hung found made = record {
  parent = p;
  found = found;
  hangs = subst (λ (ss : List Slot). Attaches (cells_of a.slots) (cells_of ss) q index m p) (sym hung.written) made;
  relinked = subst (Relinked a.slots) (sym hung.written) (relinked-attached a.slots q y hung.prev hung.next);
}

here-among : (y : ℕ) (m : Node) → y ≡ id_of m → IsAmong y (ids m)
here-among y m e = subst (λ (z : ℕ). IsAmong z (ids m)) (sym e) (among-top m)

pub rehung : (k : Kept) (x y q index : ℕ) (m : Node) (slots : List Slot) → IsDoc k x → (t : HoldsTaken (record k { slots = taken_out y k.slots }) x (tree_in k.slots x) y m) → MayMove k x y q index m
    → ((p : Node) → id_of p ≡ q → IsLinked (cells_of (taken_out y k.slots)) p → index ≤ length (ids_of (children_of p)) → IsHung (taken_out y k.slots) slots q y index (ids_of (children_of p)))
    → Rehung (record k { slots = taken_out y k.slots }) slots (tree_in k.slots x) y q index m
rehung k x y q index m slots d t may step =
    let n : Node = tree_in k.slots x in
    let a : Kept = record k { slots = taken_out y k.slots } in
    let rest : Node = tree_after_remove y n in
    let number : y ≡ id_of m = find-id y n m t.found in
    let p = some-is (find q rest) (parent-stays y q m n may.can) in
    let list : child_count q rest ≡ length (ids_of (children_of p.0)) = ap length (child_ids-found q rest p.0 p.1) in
    let linked : IsLinked (cells_of a.slots) p.0 = t.rest q p.0 p.1 in
    let same_q : q ≡ id_of p.0 = find-id q rest p.0 p.1 in
    let hung : IsHung a.slots slots q y index (ids_of (children_of p.0)) = step p.0 (sym same_q) linked (omega (arith, may.has_place, list)) in
    let apart = part-apart (ids n) (ids m) (ids rest) (spliced-removed y n m t.distinct t.found t.inner) t.distinct in
    let dr : AreDistinct (ids rest) = distinct-removed y n t.distinct in
    let live_y : IsLive a.slots y = linked-live a.slots m y t.taken (here-among y m number) in
    let live_q : IsLive a.slots q = linked-live a.slots rest q t.rest (some-among q rest p.0 p.1) in
    let few : length (ids_of (children_of p.0)) < 4294967295 =
    let part = part-length q rest p.0 p.1 in
    let less = node_count-removed y n m t.distinct t.found t.inner in
    let kept = t.store.count in
    omega (arith, children-count p.0, part, less, t.live, kept, t.store.few) in
    let made = attaches a.slots q y index hung.prev hung.next m p.0 number (live-within a.slots y live_y) (live-small a y t.store live_y) (live-small a q t.store live_q) few hung.between.0 hung.between.1
    (ap (body_at a.slots) same_q ∙ linked.0)
    (λ j b e. apart y (here-among y m number) (subst (λ (z : ℕ). IsAmong z (ids rest)) e (find-part q rest p.0 j p.1 (child-below j p.0 b))))
    (children-distinct p.0 (find-distinct q rest p.0 p.1 dr)) in
    by-hung a slots n m p.0 y q index hung p.1 made

pub rehung-holds : (k : Kept) (x y q index : ℕ) (m : Node) (slots : List Slot) → IsDoc k x → HoldsTaken (record k { slots = taken_out y k.slots }) x (tree_in k.slots x) y m → MayMove k x y q index m
    → Relinked k.slots (taken_out y k.slots) → Rehung (record k { slots = taken_out y k.slots }) slots (tree_in k.slots x) y q index m
    → HoldsTree (record k { slots = slots }) x (tree_after_move y q index (tree_in k.slots x))
rehung-holds k x y q index m slots d t may relinked r =
    let n : Node = tree_in k.slots x in
    let a : Kept = record k { slots = taken_out y k.slots } in
    let rest : Node = tree_after_remove y n in
    let moved : Node = tree_after_insert q index m rest in
    let number : y ≡ id_of m = find-id y n m t.found in
    let found : find q rest ≡ Some r.parent = r.found in
    let apart = part-apart (ids n) (ids m) (ids rest) (spliced-removed y n m t.distinct t.found t.inner) t.distinct in
    let dr : AreDistinct (ids rest) = distinct-removed y n t.distinct in
    let same : tree_after_move y q index n ≡ moved = move-is y q index m n t.found in
    let top_is : id_of rest ≡ x = id_of-removed y n ∙ t.at in
    let named : IsSome (name_of r.parent) = subst (λ (o : Option Node). IsSome (option_and_then name_of o)) found (fits-left y q m n may.can).element in
    let not_child : IsAmong x (ids_of (children_of r.parent)) → ⊥ = λ c. child-lower q x rest r.parent dr found c (sym top_is) in
    subst (HoldsTree (record k { slots = slots }) x) (sym same) (record {
      store = store-relinked a slots r.relinked t.store;
      linked = linked-attached (cells_of a.slots) (cells_of slots) rest m r.parent q index dr (find-distinct y n m t.found t.distinct) apart found named r.hangs t.rest t.taken;
      distinct = distinct-inserted q index m rest (fits-left y q m n may.can);
      at = id_of-inserted q index m rest ∙ top_is;
      top =
          r.hangs.hooks.others x (λ e. t.inner (number ∙ (sym e ∙ sym t.at)))
          (λ e. not_child (among-take x index (ids_of (children_of r.parent)) (end-among x (take index (ids_of (children_of r.parent))) e)))
          (λ e. not_child (among-drop x index (ids_of (children_of r.parent)) (front-among x (drop index (ids_of (children_of r.parent))) e)))
          ∙ t.top;
      element = ap is_some (name_of-inserted q index m rest ∙ name_of-removed y n) ∙ t.element;
      only = λ z l.
          subst (λ (w : Node). IsAmong z (ids w)) same ((among-moved y z q index m n may.can).0 (t.only z (live-same slots a.slots z (sym (r.relinked.contents z)) l)));
      live = t.live ∙ (sym (node_count-moved y q index m n may.can) ∙ ap node_count same);
      code_points = t.code_points ∙ (sym (text_size-moved y q index m n may.can) ∙ ap (λ (w : Node). text_size (without_ids w)) same);
    })

-- ---- the document

moved-renamed : (f : ℕ → ℕ) (y q index : ℕ) (n m : Node) → IsAlone f y (ids n) → IsAlone f q (ids n) → find y n ≡ Some m
    → rename f (tree_after_move y q index n) ≡ tree_after_move (f y) (f q) index (rename f n)
moved-renamed f y q index n m ay aq found =
    let there : find (f y) (rename f n) ≡ Some (rename f m) = find-renamed f y n ay ∙ ap (option_map (rename f)) found in
    ap (rename f) (move-is y q index m n found)
    ∙ (inserted-renamed f q index m (tree_after_remove y n) (λ z a. aq z (among-kept y z n a))
    ∙ (ap (tree_after_insert (f q) index (rename f m)) (removed-renamed f y n ay)
    ∙ sym (move-is (f y) (f q) index (rename f m) (rename f n) there)))

pub doc-moved : (k : Kept) (x y q index : ℕ) (slots : List Slot) → IsDoc k x → IsLive k.slots y → IsLive k.slots q → first_of (move_causes y q index (slot_document k x)) ≡ None
    → ((p : Node) → id_of p ≡ q → IsLinked (cells_of (taken_out y k.slots)) p → index ≤ length (ids_of (children_of p)) → IsHung (taken_out y k.slots) slots q y index (ids_of (children_of p)))
    → IsDocOf (record k { slots = slots }) x (document_after_move (id_at k.slots y) (id_at k.slots q) index (document_in k x))
doc-moved k x y q index slots d live live_q none step =
    let f : ℕ → ℕ = id_at k.slots in
    let n : Node = tree_in k.slots x in
    let a : Kept = record k { slots = taken_out y k.slots } in
    let b : Kept = record k { slots = slots } in
    let there = slot-node k x n y d.tree live in
    let m : Node = there.0 in
    let may : MayMove k x y q index m = may-move k x y q index m d there.1.0 live_q none in
    let other : y ≡ x → ⊥ = λ e. may.can.not_root (e ∙ sym d.tree.at) in
    let w : HangsAt k.slots n y = hangs-at k x n y d.tree live other in
    let is : w.node ≡ m = same_Some w.node m (sym w.found ∙ there.1.0) in
    let t : HoldsTaken a x n y m = subst (HoldsTaken a x n y) is (taken-holds k x n y d.tree w other) in
    let out : Relinked k.slots a.slots = taken-relinked k.slots n y w in
    let r : Rehung a slots n y q index m = rehung k x y q index m slots d t may step in
    let moved : Node = tree_after_move y q index n in
    let holds : HoldsTree b x moved = rehung-holds k x y q index m slots d t may out r in
    let ay : IsAlone f y (ids n) = tree-alone k x n d.tree y (d.tree.only y live) in
    let aq : IsAlone f q (ids n) = tree-alone k x n d.tree q (d.tree.only q live_q) in
    let root : rename (id_at slots) moved ≡ tree_after_move (f y) (f q) index (rename f n) =
    rename-same (id_at slots) f moved (λ z c. r.relinked.ids z ∙ out.ids z) ∙ moved-renamed f y q index n m ay aq there.1.0 in
    let same : document_of b moved ≡ document_after_move (f y) (f q) index (document_in k x) = λ j. record { root = root j; next_id = length k.table } in
    let limits : KeepsLimits (document_of b moved) =
    limits-renamed (id_at slots) moved (length k.table)
    (kept-moved y q index may.above m (slot_document k x) may.can may.at_level may.low (limits-unnamed f n (length k.table) d.limits)) in
    let done = tree-doc b x moved holds limits in
    (done.1, done.0 ∙ same)
