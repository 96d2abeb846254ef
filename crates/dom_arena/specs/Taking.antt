-- What is written into slots when a node is taken out of its parent's children, and what document the slots then are.
use Rattle.std.specs.Prelude.{◌≡◌, ℕ, List, Option, Some, None, slice_get}
use Rattle.page_model.specs.Document.{Document}
use Rattle.dom_arena.specs.Docs.{IsDoc, document_in}
use Rattle.dom_arena.specs.Slots.{target, up_link, prev_link, next_link}
use Rattle.dom_arena.specs.Stores.{Kept}
use Rattle.dom_arena.specs.Writes.{detached}
use Rattle.dom_arena.specs.declared.link.Link.{Link}
use Rattle.dom_arena.specs.declared.slot.Slot.{Slot}

abbrev pub detached_from : Option ℕ → Link → Link → List Slot → List Slot
detached_from None prev next slots = slots
detached_from (Some parent) prev next slots = detached parent prev next slots

-- the slots in which the node in the slot `x` is passed over by its parent and siblings; its own links stay
abbrev pub taken_out : ℕ → List Slot → List Slot
taken_out x slots =
    detached_from (target (up_link (slice_get slots x))) (prev_link (slice_get slots x)) (next_link (slice_get slots x)) slots

-- the slots are this document, the root of which is in the slot `x`
abbrev pub IsDocOf : Kept → ℕ → Document → Type 0
IsDocOf k x d = IsDoc k x × (document_in k x ≡ d)
