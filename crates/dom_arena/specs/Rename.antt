-- A tree under other ids.
use Rattle.std.specs.Prelude.{◌≡◌, ℕ, List}
use Rattle.page_model.specs.Document.{Node, element, text, Nodes, no_nodes, node, IsAmong}

-- the tree in which each node has the id that `f` gives for its own
abbrev mutual
  pub rename : (ℕ → ℕ) → Node → Node
  rename f (element id name attributes children) = element (f id) name attributes (all_renamed f children)
  rename f (text id cs) = text (f id) cs

  pub all_renamed : (ℕ → ℕ) → Nodes → Nodes
  all_renamed f no_nodes = no_nodes
  all_renamed f (node n ns) = node (rename f n) (all_renamed f ns)

-- `f` gives no other of these what it gives for `x`
abbrev pub IsAlone : (ℕ → ℕ) → ℕ → List ℕ → Type 0
IsAlone f x ys = (y : ℕ) → IsAmong y ys → f y ≡ f x → y ≡ x
