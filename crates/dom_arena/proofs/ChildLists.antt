-- The children of a node as its slot tells them.
use Rattle.std.proofs.Common.{List, None, Some, ap, arith, inl, inr, length, map, option_and_then, option_map, slice_get, sym, ℕ, ◌∙◌, ◌≡◌}
use Rattle.dom_arena.proofs.Docs.{doc-facts, found-by, not-found, slot-node}
use Rattle.dom_arena.proofs.Found.{find-children}
use Rattle.dom_arena.proofs.Readings.{siblings-chain}
use Rattle.dom_arena.proofs.Releases.{slot-of-body}
use Rattle.dom_arena.proofs.Renamed.{children-renamed}
use Rattle.dom_arena.proofs.Written.{body-parts}
use Rattle.dom_arena.specs.Cells.{IsLinked, body_of}
use Rattle.dom_arena.specs.Docs.{IsDoc, document_in}
use Rattle.dom_arena.specs.Found.{AreFound}
use Rattle.dom_arena.specs.Reading.{ids_from, siblings, tree_in}
use Rattle.dom_arena.specs.Rename.{rename}
use Rattle.dom_arena.specs.Slots.{cells_of, child_number, first_link, id_at, place_at, table_at, target}
use Rattle.dom_arena.specs.Stores.{Kept, slot_by_id}
use Rattle.page_laws.proofs.Options.{none-or-some}
use Rattle.page_laws.proofs.ParentOf.{child_ids-found}
use Rattle.page_laws.proofs.TreeAfterMove.{list-dead}
use Rattle.page_model.specs.Document.{Node, child_ids, children_of, find, id_of, ids_of}

-- the list of children of the node with an id
pub read-children : (k : Kept) (x i : ℕ) → IsDoc k x
    → ids_from k.slots (child_number (slot_by_id k i)) (target (first_link (slot_by_id k i))) ≡ child_ids i (document_in k x).root
read-children k x i d =
    let f : ℕ → ℕ = id_at k.slots in
    let n : Node = tree_in k.slots x in
    elim (none-or-some (table_at k.table i)) [
      | inl e ↦
          ap (λ o. ids_from k.slots (child_number o) (target (first_link o))) (ap (option_and_then (slice_get k.slots)) e)
          ∙ sym (list-dead i (document_in k x).root (not-found k x n i d.tree e))
      | inr e ↦
          let y : ℕ = e.0 in
          let m = slot-node k x n y d.tree (d.tree.store.found i y e.1).0 in
          let s = slot-of-body k.slots y (body_of m.0) m.1.1 in
          let parts = body-parts y s.0 (body_of m.0) s.2 in
          let list : List ℕ = ids_of (children_of m.0) in
          let linked : IsLinked (cells_of k.slots) m.0 = d.tree.linked y m.0 m.1.0 in
          let slot : slot_by_id k i ≡ Some s.0 = ap (option_and_then (slice_get k.slots)) e.1 ∙ s.1 in
          let all : siblings (place_at k.slots) s.0.children (target s.0.first) ≡ list =
          (λ j. siblings (place_at k.slots) (parts.3 j) (parts.1 j)) ∙ siblings-chain (place_at k.slots) (id_of m.0) (length list) None list linked.1 (omega arith) in
          let found : find i (document_in k x).root ≡ Some (rename f m.0) = found-by k x n i y d.tree e.1 ∙ ap (option_map (rename f)) m.1.0 in
          ap (λ o. ids_from k.slots (child_number o) (target (first_link o))) slot
          ∙ (ap (map f) all ∙ (sym (children-renamed f m.0) ∙ sym (child_ids-found i (document_in k x).root (rename f m.0) found)))
    ]

-- each child of a node is a node of the document
pub children-found : (k : Kept) (x i : ℕ) (n : Node) → IsDoc k x → find i (document_in k x).root ≡ Some n → AreFound (document_in k x).root (children_of n)
children-found k x i n d f = find-children i (document_in k x).root n (doc-facts k x d).ids.0 f
