-- How cells are read as a tree.
use Rattle.std.specs.Prelude.{ℕ, zero, suc, List, [], ◌∷◌, map, Option, Some, None, option_and_then}
use Rattle.page_model.specs.Document.{Node, element, text, nodes_of}
use Rattle.page_model.specs.declared.limits.TheConstants.{MAX_NODES, MAX_DEPTH}
use Rattle.dom_arena.specs.declared.slot.Slot.{Slot}
use Rattle.dom_arena.specs.Cells.{Place, Body, Cells}
use Rattle.dom_arena.specs.Slots.{cells_of, id_at, place_at}

-- this one and those that come after it, at most `k`
abbrev pub siblings : (ℕ → Option Place) → ℕ → Option ℕ → List ℕ
siblings place zero o = []
siblings place (suc k) None = []
siblings place (suc k) (Some x) = x ∷ siblings place k (option_and_then (λ (p : Place). p.after) (place x))

-- a node by itself with these below it
abbrev pub with_below : Node → List Node → Node
with_below (element id name attributes children) ns = element id name attributes (nodes_of ns)
with_below (text id cs) ns = text id cs

abbrev pub node_of : Cells → ℕ → (ℕ → Node) → ℕ → Option Body → Node
node_of c many child x None = text x []
node_of c many child x (Some b) = with_below b.own (map child (siblings c.place many b.first))

-- the tree below a slot, at most `levels` deep, with at most `many` children each
unfoldable pub below : Cells → ℕ → ℕ → ℕ → Node
below c many zero x = text x []
below c many (suc levels) x = node_of c many (below c many levels) x (c.body x)

-- the tree of slots that the links are, from the slot of the root on
abbrev pub tree_in : List Slot → ℕ → Node
tree_in slots x = below (cells_of slots) MAX_NODES MAX_DEPTH x

-- the ids of the nodes in this slot and in those of its next siblings, at most `k`
abbrev pub ids_from : List Slot → ℕ → Option ℕ → List ℕ
ids_from slots k o = map (id_at slots) (siblings (place_at slots) k o)
