-- Going over a document by numbers.
use Rattle.std.specs.Prelude.{◌≡◌, ◌≤◌, ℕ, List, [], ◌∷◌, true, is_some, unwrap_or}
use Rattle.page_model.specs.Document.{Node, text, Nodes, id_of, no_nodes, node, find, height}

-- the node with this number
abbrev pub node_at : ℕ → Node → Node
node_at i root = unwrap_or (find i root) (text i [])

abbrev pub nodes_at : List ℕ → Node → Nodes
nodes_at [] root = no_nodes
nodes_at (i ∷ is) root = node (node_at i root) (nodes_at is root)

-- a node has this number, and no node below it stands deeper than so many levels
pub record Reaches (levels i : ℕ) (root : Node) : Type 0 where
  pub live : is_some (find i root) ≡ true
  pub number : id_of (node_at i root) ≡ i
  pub low : height (node_at i root) ≤ levels

abbrev pub AllReach : ℕ → List ℕ → Node → Type 0
AllReach levels [] root = Unit {0}
AllReach levels (i ∷ is) root = Reaches levels i root × AllReach levels is root
