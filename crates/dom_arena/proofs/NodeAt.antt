-- The node with an id, and its slot.
use Rattle.std.proofs.Common.{None, Some, ap, inl, inr, option_and_then, option_map, slice_get, ℕ, ◌∙◌, ◌≡◌, ◌⊎◌}
use Rattle.page_laws.proofs.Options.{none-or-some}
use Rattle.page_model.specs.Document.{Node, find, name_at, name_of}
use Rattle.dom_arena.proofs.Docs.{find-by-table, slot-node}
use Rattle.dom_arena.proofs.Renamed.{name_of-renamed}
use Rattle.dom_arena.proofs.Releases.{slot-of-body}
use Rattle.dom_arena.specs.Cells.{body_of}
use Rattle.dom_arena.specs.Docs.{IsDoc, document_in}
use Rattle.dom_arena.specs.Reading.{tree_in}
use Rattle.dom_arena.specs.Rename.{rename}
use Rattle.dom_arena.specs.Slots.{body_in, id_at, table_at}
use Rattle.dom_arena.specs.Stores.{Kept, slot_by_id}
use Rattle.dom_arena.specs.declared.slot.Slot.{Slot}

-- the id is that of a node: the node, its slot, and the slot's place
pub record IsAt (k : Kept) (x i : ℕ) : Type 0 where
  pub y : ℕ
  pub m : Node
  pub s : Slot
  pub at : table_at k.table i ≡ Some y
  pub found : find y (tree_in k.slots x) ≡ Some m
  pub slot : slice_get k.slots y ≡ Some s
  pub body : body_in y s ≡ Some (body_of m)
  pub by_id : slot_by_id k i ≡ Some s
  pub node : find i (document_in k x).root ≡ Some (rename (id_at k.slots) m)

node-at : (k : Kept) (x i : ℕ) → IsDoc k x → (y : ℕ) → table_at k.table i ≡ Some y → IsAt k x i
node-at k x i d y e =
    let m = slot-node k x (tree_in k.slots x) y d.tree (d.tree.store.found i y e).0 in
    let s = slot-of-body k.slots y (body_of m.0) m.1.1 in
    record {
      y = y;
      m = m.0;
      s = s.0;
      at = e;
      found = m.1.0;
      slot = s.1;
      body = s.2;
      by_id = ap (option_and_then (slice_get k.slots)) e ∙ s.1;
      node = find-by-table k x (tree_in k.slots x) i d.tree
          ∙ (ap (λ o. option_map (rename (id_at k.slots)) (option_and_then (λ (z : ℕ). find z (tree_in k.slots x)) o)) e ∙ ap (option_map (rename (id_at k.slots))) m.1.0);
    }

-- the id is that of no node
absent-at : (k : Kept) (x i : ℕ) → IsDoc k x → table_at k.table i ≡ None → (slot_by_id k i ≡ None) × (find i (document_in k x).root ≡ None)
absent-at k x i d e = (
  ap (option_and_then (slice_get k.slots)) e,
  find-by-table k x (tree_in k.slots x) i d.tree ∙ ap (λ o. option_map (rename (id_at k.slots)) (option_and_then (λ (z : ℕ). find z (tree_in k.slots x)) o)) e,
)

pub at-or-absent : (k : Kept) (x i : ℕ) → IsDoc k x → IsAt k x i ⊎ ((slot_by_id k i ≡ None) × (find i (document_in k x).root ≡ None))
at-or-absent k x i d = elim (none-or-some (table_at k.table i)) [
  | inl none ↦ inr (absent-at k x i d none)
  | inr some ↦ inl (node-at k x i d some.0 some.1)
]

pub name-at : (k : Kept) (x i : ℕ) → IsDoc k x → (p : IsAt k x i) → name_at i (document_in k x).root ≡ name_of p.m
name-at k x i d p = ap (option_and_then name_of) p.node ∙ name_of-renamed (id_at k.slots) p.m
