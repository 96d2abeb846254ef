-- What an edit of a node's own content writes, and why it is refused, by the node's slot.
use Rattle.std.specs.Prelude.{ℕ, ◌+◌, ◌-◌, ◌||◌, ◌∷◌, List, [], length, nat_lt, not, is_none, is_some, Option, Some, None, slice_get}
use Rattle.page_model.specs.Names.{is_name}
use Rattle.page_model.specs.Refusals.{Causes}
use Rattle.page_model.specs.Trees.{Attribute, Text, is_long}
use Rattle.page_model.specs.declared.cause.Cause.TheVariants.{NoNode, NotElement, NotText, BadName, TextLimit, AttrLimit}
use Rattle.page_model.specs.declared.limits.TheConstants.{MAX_ATTRIBUTES, MAX_TEXTS}
use Rattle.dom_arena.specs.declared.slot.Slot.{Slot}
use Rattle.dom_arena.specs.declared.slot.Content.{Content}
use Rattle.dom_arena.specs.declared.slot.Content.TheVariants.{Element, Chars, Free}
use Rattle.dom_arena.specs.declared.spots.Spot.{Spot}
use Rattle.dom_arena.specs.Slots.{attributes_in_slot, name_in_slot}
use Rattle.dom_arena.specs.Spots.{count_with, length_at, spot_of}
use Rattle.dom_arena.specs.Stores.{Kept, size_in}
use Rattle.dom_arena.specs.Writes.{changed}

-- ---- what is written

-- the slot whose content is what `f` gives for it, which has `size` code points
abbrev pub with_content : (Content → Content) → ℕ → Slot → Slot
with_content f size s = record s { size = size; content = f s.content }

-- the code points of all texts, where those of one node become `size`
abbrev pub total_with : ℕ → Option Slot → ℕ → ℕ
total_with total o size = (total - size_in o) + size

-- what is kept where the content in the slot `x` becomes what `f` gives for it
abbrev pub kept_changed : Kept → ℕ → (Content → Content) → ℕ → Kept
kept_changed k x f size = record k {
  slots = changed x (with_content f size) k.slots;
  code_points = total_with k.code_points (slice_get k.slots x) size;
}

abbrev pub kept_after : Kept → Option ℕ → (Content → Content) → ℕ → Kept
kept_after k None f size = k
kept_after k (Some x) f size = kept_changed k x f size

-- the element with other attributes; what is no element stays
abbrev pub with_attributes : (List Attribute → List Attribute) → Content → Content
with_attributes g (Element name attributes) = Element name (g attributes)
with_attributes g (Chars cs) = Chars cs
with_attributes g (Free next) = Free next

-- where the attribute `name` stands in a slot
abbrev pub spot_in : Text → Option Slot → Spot
spot_in name o = spot_of name (attributes_in_slot o)

-- how many code points the node in a slot has by itself, without the attribute `name` and with it
abbrev pub size_without : Option Slot → Text → ℕ
size_without o name = size_in o - length_at (spot_in name o) (attributes_in_slot o)

abbrev pub size_with : Option Slot → Text → Text → ℕ
size_with o name value = size_without o name + length value

-- how many code points all texts have without that attribute
abbrev pub others_of : ℕ → Option Slot → Text → ℕ
others_of total o name = (total - size_in o) + size_without o name

-- ---- causes of refusals

abbrev pub text_causes : Option Slot → ℕ → Text → Causes
text_causes o total cs =
    (is_none o, NoNode)
    ∷ (is_some (name_in_slot o), NotText)
    ∷ (is_long cs || nat_lt MAX_TEXTS (total_with total o (length cs)), TextLimit)
    ∷ []

abbrev pub drop_causes : Option Slot → Causes
drop_causes o = (is_none o, NoNode) ∷ (is_none (name_in_slot o), NotElement) ∷ []

abbrev pub attr_causes : Option Slot → ℕ → Text → Text → Causes
attr_causes o total name value =
    (is_none o, NoNode)
    ∷ (is_none (name_in_slot o), NotElement)
    ∷ (not (is_name name), BadName)
    ∷ (is_long value || nat_lt MAX_TEXTS (others_of total o name + length value), TextLimit)
    ∷ (nat_lt MAX_ATTRIBUTES (count_with (spot_in name o) (length (attributes_in_slot o))), AttrLimit)
    ∷ []
