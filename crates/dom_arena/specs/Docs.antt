-- What a document's slots are: one tree of slots, and the same tree under its ids.
use Rattle.std.specs.Prelude.{◌≡◌, ℕ, length, IsSome, Some}
use Rattle.page_model.specs.Trees.{text_size}
use Rattle.page_model.specs.Document.{Document, Node, id_of, ids, name_of, node_count, without_ids, AreDistinct, IsAmong}
use Rattle.page_laws.specs.Ids.{HasGivenIds}
use Rattle.page_laws.specs.Limits.{KeepsLimits}
use Rattle.dom_arena.specs.Cells.{AreLinked, nowhere}
use Rattle.dom_arena.specs.Slots.{cells_of, place_at, id_at, IsLive}
use Rattle.dom_arena.specs.Stores.{Kept, IsStore}
use Rattle.dom_arena.specs.Reading.{tree_in}
use Rattle.dom_arena.specs.Rename.{rename}

-- what contracts see of a `Doc`
pub record Seen : Type 0 where
  pub document : Document

-- the live slots are the nodes of this tree of slots and no others; its root, an element in the slot `x`, hangs nowhere
pub record HoldsTree (k : Kept) (x : ℕ) (n : Node) : Type 0 where
  pub store : IsStore k
  pub linked : AreLinked (cells_of k.slots) n
  pub distinct : AreDistinct (ids n)
  pub at : id_of n ≡ x
  pub top : place_at k.slots x ≡ Some nowhere
  pub element : IsSome (name_of n)
  pub only : (y : ℕ) → IsLive k.slots y → IsAmong y (ids n)
  pub live : k.live ≡ node_count n
  pub code_points : k.code_points ≡ text_size (without_ids n)

-- the document in these slots: the tree below the slot `x`, each node under its id; each id that was given has its place in the table
abbrev pub document_in : Kept → ℕ → Document
document_in k x = record { root = rename (id_at k.slots) (tree_in k.slots x); next_id = length k.table }

-- the slots are one tree, the root of which is in the slot `x`, and the document breaks no limit
pub record IsDoc (k : Kept) (x : ℕ) : Type 0 where
  pub tree : HoldsTree k x (tree_in k.slots x)
  pub limits : KeepsLimits (document_in k x)

-- what holds of each document: its root is an element, each id stands once and was given, and no limit is broken
pub record IsDocument (d : Document) : Type 0 where
  pub element : IsSome (name_of d.root)
  pub ids : HasGivenIds d
  pub limits : KeepsLimits d
