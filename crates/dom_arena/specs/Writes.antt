-- What is written into slots when a node is hung below another, and when it is taken from there.
use Rattle.std.specs.Prelude.{ℕ, ◌+◌, ◌-◌, min, List, Option, Some, None, slice_get, slice_set}
use Rattle.dom_arena.specs.declared.link.Link.{Link}
use Rattle.dom_arena.specs.declared.slot.Slot.{Slot}
use Rattle.dom_arena.specs.Slots.{target}
use Rattle.dom_arena.specs.Stores.{link_to}

-- the slots in which the slot `x` is what `f` gives for it
abbrev pub changed_to : List Slot → ℕ → (Slot → Slot) → Option Slot → List Slot
changed_to slots x f None = slots
changed_to slots x f (Some s) = slice_set slots x (f s)

abbrev pub changed : ℕ → (Slot → Slot) → List Slot → List Slot
changed x f slots = changed_to slots x f (slice_get slots x)

abbrev pub with_place : Link → Link → Link → Slot → Slot
with_place parent prev next s = record s { parent = parent; prev = prev; next = next }

abbrev pub with_prev : Link → Slot → Slot
with_prev l s = record s { prev = l }

abbrev pub with_next : Link → Slot → Slot
with_next l s = record s { next = l }

abbrev pub with_first : Link → Slot → Slot
with_first l s = record s { first = l }

abbrev pub with_last : Link → Slot → Slot
with_last l s = record s { last = l }

abbrev pub one_more : Slot → Slot
one_more s = record s { children = min (s.children + 1) 4294967295 }

abbrev pub one_fewer : Slot → Slot
one_fewer s = record s { children = s.children - 1 }

-- the slots in which `to` comes after `prev` among the children of `parent`; without `prev` it is the first
abbrev pub forward : ℕ → Option ℕ → Link → List Slot → List Slot
forward parent None to slots = changed parent (with_first to) slots
forward parent (Some x) to slots = changed x (with_next to) slots

-- the slots in which `to` comes before `next` among the children of `parent`; without `next` it is the last
abbrev pub back : ℕ → Option ℕ → Link → List Slot → List Slot
back parent None to slots = changed parent (with_last to) slots
back parent (Some x) to slots = changed x (with_prev to) slots

-- the slots in which `child` hangs below `parent` between `prev` and `next`
abbrev pub attached : ℕ → ℕ → Link → Link → List Slot → List Slot
attached parent child prev next slots =
    changed parent one_more
    (back parent (target next) (link_to child)
    (forward parent (target prev) (link_to child)
    (changed child (with_place (link_to parent) prev next) slots)))

-- the slots in which the child of `parent` between `prev` and `next` is passed over
abbrev pub detached : ℕ → Link → Link → List Slot → List Slot
detached parent prev next slots =
    changed parent one_fewer (back parent (target next) prev (forward parent (target prev) next slots))
