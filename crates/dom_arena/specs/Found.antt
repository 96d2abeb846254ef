-- Nodes that are found by their ids.
use Rattle.std.specs.Prelude.{◌≡◌, Some}
use Rattle.page_model.specs.Document.{Node, Nodes, no_nodes, node, id_of, find}

-- each of these nodes is found by its id
abbrev pub AreFound : Node → Nodes → Type 0
AreFound root no_nodes = Unit {0}
AreFound root (node n ns) = (find (id_of n) root ≡ Some n) × AreFound root ns
