-- What is written into slots when a node is hung at an index, and documents by their slots.
use Rattle.std.specs.Prelude.{◌≡◌, ◌==◌, ℕ, List, length, Bool, false, Option, Some, None}
use Rattle.page_model.specs.Document.{Document}
use Rattle.dom_arena.specs.Between.{IsBetween}
use Rattle.dom_arena.specs.Reading.{tree_in}
use Rattle.dom_arena.specs.Stores.{Kept}
use Rattle.dom_arena.specs.Writes.{attached}
use Rattle.dom_arena.specs.declared.link.Link.{Link}
use Rattle.dom_arena.specs.declared.slot.Slot.{Slot}

-- the document in which each node has its slot as its id
abbrev pub slot_document : Kept → ℕ → Document
slot_document k x = record { root = tree_in k.slots x; next_id = length k.table }

-- `child` was hung below `parent`, the children of which are `xs`, behind the first `index` of them
pub record IsHung (old new : List Slot) (parent child index : ℕ) (xs : List ℕ) : Type 0 where
  pub prev : Link
  pub next : Link
  pub between : IsBetween prev next index xs
  pub written : new ≡ attached parent child prev next old

-- whether it is this slot
abbrev pub leads_to : ℕ → Option ℕ → Bool
leads_to x None = false
leads_to x (Some y) = y == x
