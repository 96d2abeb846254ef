-- What a list of slots says.
use Rattle.std.specs.Prelude.{ℕ, ◌==◌, List, [], Bool, true, false, Option, Some, None, IsSome, slice_get, if◌then◌else◌, option_map, option_and_then, unwrap_or}
use Rattle.page_model.specs.Trees.{Attribute, Text, Tree, elem, characters, no_trees}
use Rattle.page_model.specs.Document.{Node, element, text, no_nodes}
use Rattle.dom_arena.specs.declared.link.Link.{Link}
use Rattle.dom_arena.specs.declared.slot.Slot.{Slot}
use Rattle.dom_arena.specs.declared.slot.Content.{Content}
use Rattle.dom_arena.specs.declared.slot.Content.TheVariants.{Element, Chars, Free}
use Rattle.dom_arena.specs.Cells.{Place, Body, Cells}

-- the slot that a link leads to
abbrev pub target : Link → Option ℕ
target l = if l.raw == 4294967295 then None else Some l.raw

abbrev pub place_in : Slot → Place
place_in s = record { up = target s.parent; before = target s.prev; after = target s.next }

-- the node in a slot by itself, under the slot as its id
abbrev pub own_in : ℕ → Content → Option Node
own_in x (Element name attributes) = Some (element x name attributes no_nodes)
own_in x (Chars cs) = Some (text x cs)
own_in x (Free next) = None

abbrev pub body_in : ℕ → Slot → Option Body
body_in x s =
    option_map (λ own. record { own = own; first = target s.first; last = target s.last; count = s.children; size = s.size }) (own_in x s.content)

abbrev pub place_at : List Slot → ℕ → Option Place
place_at slots x = option_map place_in (slice_get slots x)

abbrev pub body_at : List Slot → ℕ → Option Body
body_at slots x = option_and_then (body_in x) (slice_get slots x)

-- the id of the node in a slot
abbrev pub id_at : List Slot → ℕ → ℕ
id_at slots x = unwrap_or (option_map (λ (s : Slot). s.id) (slice_get slots x)) 0

abbrev pub cells_of : List Slot → Cells
cells_of slots = record { place = place_at slots; body = body_at slots }

-- a node stands in the slot
abbrev pub IsLive : List Slot → ℕ → Type 0
IsLive slots x = IsSome (body_at slots x)

-- the slot of the node with an id
abbrev pub table_at : List Link → ℕ → Option ℕ
table_at table i = option_and_then target (slice_get table i)

abbrev pub content_at : List Slot → ℕ → Option Content
content_at slots x = option_map (λ (s : Slot). s.content) (slice_get slots x)

-- the link to the first child, and the number of children
abbrev pub first_link : Option Slot → Link
first_link None = record { raw = 4294967295 }
first_link (Some s) = s.first

abbrev pub child_number : Option Slot → ℕ
child_number None = 0
child_number (Some s) = s.children

abbrev pub last_link : Option Slot → Link
last_link None = record { raw = 4294967295 }
last_link (Some s) = s.last

abbrev pub up_link : Option Slot → Link
up_link None = record { raw = 4294967295 }
up_link (Some s) = s.parent

abbrev pub next_link : Option Slot → Link
next_link None = record { raw = 4294967295 }
next_link (Some s) = s.next

abbrev pub prev_link : Option Slot → Link
prev_link None = record { raw = 4294967295 }
prev_link (Some s) = s.prev

-- ---- contents

-- the name of an element
abbrev pub name_in : Content → Option Text
name_in (Element name attributes) = Some name
name_in (Chars cs) = None
name_in (Free next) = None

-- the name of the element in a slot
abbrev pub name_in_slot : Option Slot → Option Text
name_in_slot o = option_and_then (λ (s : Slot). name_in s.content) o

-- the attributes of an element; a text has none
abbrev pub attributes_in : Content → List Attribute
attributes_in (Element name attributes) = attributes
attributes_in (Chars cs) = []
attributes_in (Free next) = []

abbrev pub attributes_in_slot : Option Slot → List Attribute
attributes_in_slot None = []
attributes_in_slot (Some s) = attributes_in s.content

-- the code points of a text
abbrev pub text_in : Content → Option Text
text_in (Element name attributes) = None
text_in (Chars cs) = Some cs
text_in (Free next) = None

-- whether a node stands there
abbrev pub is_node : Option Content → Bool
is_node None = false
is_node (Some (Element name attributes)) = true
is_node (Some (Chars cs)) = true
is_node (Some (Free next)) = false

-- the tree of a content, without children
abbrev pub tree_of_content : Content → Tree
tree_of_content (Element name attributes) = elem name attributes no_trees
tree_of_content (Chars cs) = characters cs
tree_of_content (Free next) = characters []
