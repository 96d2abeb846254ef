-- What is kept of nodes: slots, the table that leads from ids to them, and the list of free slots.
use Rattle.std.specs.Prelude.{◌≡◌, ◌⊎◌, ℕ, ◌+◌, ◌-◌, ◌<◌, ◌≤◌, List, [], ◌∷◌, ◌++◌, length, Option, Some, None, slice_get, slice_set, option_and_then}
use Rattle.page_model.specs.Document.{IsAmong, AreDistinct}
use Rattle.page_model.specs.declared.limits.TheConstants.{MAX_NODES}
use Rattle.dom_arena.specs.declared.link.Link.{Link}
use Rattle.dom_arena.specs.declared.slot.Slot.{Slot}
use Rattle.dom_arena.specs.declared.slot.Content.{Content}
use Rattle.dom_arena.specs.declared.slot.Content.TheVariants.{Element, Chars, Free}
use Rattle.dom_arena.specs.Slots.{target, content_at, id_at, table_at, IsLive}

-- the slots, the table from ids to slots, the first slot of the free list, and the numbers of live nodes and
-- of their code points
pub record Kept : Type 0 where
  pub slots : List Slot
  pub table : List Link
  pub free : Link
  pub live : ℕ
  pub code_points : ℕ

-- these slots are the free list, in its order
abbrev pub FreeChain : List Slot → Option ℕ → List ℕ → Type 0
FreeChain slots o [] = o ≡ None
FreeChain slots o (x ∷ xs) =
    (o ≡ Some x) × ((next : Link) × (content_at slots x ≡ Some (Free next)) × FreeChain slots (target next) xs)

-- the table leads from the id of each live slot to it and to no other, and free and live slots are all slots
pub record IsStore (k : Kept) : Type 0 where
  pub free : List ℕ
  pub chain : FreeChain k.slots (target k.free) free
  pub once : AreDistinct free
  pub count : length free + k.live ≡ length k.slots
  pub all : (x : ℕ) → x < length k.slots → IsLive k.slots x ⊎ IsAmong x free
  pub listed : (x : ℕ) → IsLive k.slots x → table_at k.table (id_at k.slots x) ≡ Some x
  pub found : (i x : ℕ) → table_at k.table i ≡ Some x → IsLive k.slots x × (id_at k.slots x ≡ i)
  pub few : length k.slots ≤ MAX_NODES

-- what is kept of no nodes
abbrev pub empty_kept : Kept
empty_kept = record { slots = []; table = []; free = record { raw = 4294967295 }; live = 0; code_points = 0 }

-- the slot of the node with an id
abbrev pub slot_by_id : Kept → ℕ → Option Slot
slot_by_id k i = option_and_then (slice_get k.slots) (table_at k.table i)

-- ---- a new node

abbrev pub no_link : Link
no_link = record { raw = 4294967295 }

abbrev pub link_to : ℕ → Link
link_to x = record { raw = x }

-- a node that has neither parent nor children
abbrev pub leaf : ℕ → Content → ℕ → Slot
leaf id content size = record {
  id = id;
  parent = no_link;
  prev = no_link;
  next = no_link;
  first = no_link;
  last = no_link;
  children = 0;
  size = size;
  content = content;
}

-- the next slot of the free list, after one with this content
abbrev pub next_free : Option Content → Link
next_free None = no_link
next_free (Some (Free next)) = next
next_free (Some (Element name attributes)) = no_link
next_free (Some (Chars cs)) = no_link

-- the slot of a new node: the first of the free list, or a new one
abbrev pub spot : List Slot → Option ℕ → ℕ
spot slots None = length slots
spot slots (Some x) = x

abbrev pub slots_with : List Slot → Option ℕ → Slot → List Slot
slots_with slots None s = slots ++ s ∷ []
slots_with slots (Some x) s = slice_set slots x s

abbrev pub free_behind : List Slot → Link → Option ℕ → Link
free_behind slots free None = free
free_behind slots free (Some x) = next_free (content_at slots x)

abbrev pub kept_with : Kept → Content → ℕ → Kept
kept_with k content size = record {
  slots = slots_with k.slots (target k.free) (leaf (length k.table) content size);
  table = k.table ++ link_to (spot k.slots (target k.free)) ∷ [];
  free = free_behind k.slots k.free (target k.free);
  live = k.live + 1;
  code_points = k.code_points + size;
}

-- ---- a node that goes

abbrev pub freed : Link → Slot → Slot
freed next s = record s { content = Free next }

abbrev pub slots_without : List Slot → ℕ → Link → Option Slot → List Slot
slots_without slots x free None = slots
slots_without slots x free (Some s) = slice_set slots x (freed free s)

abbrev pub size_in : Option Slot → ℕ
size_in None = 0
size_in (Some s) = s.size

abbrev pub kept_without : Kept → ℕ → Kept
kept_without k x = record {
  slots = slots_without k.slots x k.free (slice_get k.slots x);
  table = slice_set k.table (id_at k.slots x) no_link;
  free = link_to x;
  live = k.live - 1;
  code_points = k.code_points - size_in (slice_get k.slots x);
}
