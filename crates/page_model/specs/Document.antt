-- The document: a tree of elements and texts, each with an id of its own.
use Rattle.std.specs.Prelude.{Bool, List, None, Option, Some, [], false, if◌then◌else◌, length, max, option_and_then, option_map, suc, unwrap_or, ℕ, ◌++◌, ◌+◌, ◌==◌, ◌||◌, ◌∷◌, ◌≡◌, ◌⊎◌}
use Rattle.page_model.specs.Attributes.{value_of}
use Rattle.page_model.specs.Trees.{Attribute, Text, Tree, Trees, characters, elem, no_trees, size, tree}

mutual
  pub data Node : Type 0 where
    element : (id : ℕ) (name : Text) (attributes : List Attribute) (children : Nodes) → Node
    text : (id : ℕ) (characters : Text) → Node

  pub data Nodes : Type 0 where
    no_nodes : Nodes
    node : Node → Nodes → Nodes

-- a document, and the id that the next new node gets
pub record Document : Type 0 where
  pub root : Node
  pub next_id : ℕ

abbrev pub nodes_of : List Node → Nodes
nodes_of [] = no_nodes
nodes_of (n ∷ ns) = node n (nodes_of ns)

-- ---- ids

-- a tree, with_ids from n on in document order: an element before its children, and each child's whole tree before the next
abbrev mutual
  pub with_ids : ℕ → Tree → Node
  with_ids n (elem name attributes children) = element n name attributes (all_with_ids (suc n) children)
  with_ids n (characters cs) = text n cs

  pub all_with_ids : ℕ → Trees → Nodes
  all_with_ids n no_trees = no_nodes
  all_with_ids n (tree t ts) = node (with_ids n t) (all_with_ids (n + size t) ts)

-- the tree without its ids
abbrev mutual
  pub without_ids : Node → Tree
  without_ids (element id name attributes children) = elem name attributes (all_without_ids children)
  without_ids (text id cs) = characters cs

  pub all_without_ids : Nodes → Trees
  all_without_ids no_nodes = no_trees
  all_without_ids (node n ns) = tree (without_ids n) (all_without_ids ns)

-- the document of a newly loaded tree
abbrev pub document : Tree → Document
document t = record { root = with_ids 0 t; next_id = size t }

-- ---- looking into a tree

abbrev pub id_of : Node → ℕ
id_of (element id name attributes children) = id
id_of (text id cs) = id

abbrev pub children_of : Node → Nodes
children_of (element id name attributes children) = children
children_of (text id cs) = no_nodes

-- a node by itself: its id, name, attributes and code points
abbrev pub by_itself : Node → Node
by_itself (element id name attributes children) = element id name attributes no_nodes
by_itself (text id cs) = text id cs

abbrev pub attributes_of : Node → List Attribute
attributes_of (element id name attributes children) = attributes
attributes_of (text id cs) = []

-- the code points of a text
abbrev pub text_of : Node → Option Text
text_of (element id name attributes children) = None
text_of (text id cs) = Some cs

-- an element's name
abbrev pub name_of : Node → Option Text
name_of (element id name attributes children) = Some name
name_of (text id cs) = None

-- the ids of these nodes, without those below them
abbrev pub ids_of : Nodes → List ℕ
ids_of no_nodes = []
ids_of (node n ns) = id_of n ∷ ids_of ns

-- all ids in document order
abbrev mutual
  pub ids : Node → List ℕ
  ids (element id name attributes children) = id ∷ all_ids children
  ids (text id cs) = id ∷ []

  pub all_ids : Nodes → List ℕ
  all_ids no_nodes = []
  all_ids (node n ns) = ids n ++ all_ids ns

-- x stands in the list
abbrev pub IsAmong : ℕ → List ℕ → Type 0
IsAmong x [] = ⊥
IsAmong x (y ∷ ys) = (x ≡ y) ⊎ IsAmong x ys

-- no id stands twice
abbrev pub AreDistinct : List ℕ → Type 0
AreDistinct [] = Unit {0}
AreDistinct (x ∷ xs) = (IsAmong x xs → ⊥) × AreDistinct xs

abbrev pub or_else : {X : Type 0} → Option X → Option X → Option X
or_else (Some x) o = Some x
or_else None o = o

-- the node with this id
abbrev mutual
  pub find : ℕ → Node → Option Node
  find i (element id name attributes children) =
      if i == id then Some (element id name attributes children) else find_in i children
  find i (text id cs) = if i == id then Some (text id cs) else None

  pub find_in : ℕ → Nodes → Option Node
  find_in i no_nodes = None
  find_in i (node n ns) = or_else (find i n) (find_in i ns)

abbrev pub is_among : ℕ → List ℕ → Bool
is_among x [] = false
is_among x (y ∷ ys) = (x == y) || is_among x ys

-- the node that has this id among its children
abbrev mutual
  pub parent_in : ℕ → Node → Option Node
  parent_in i (element id name attributes children) =
      if is_among i (ids_of children) then Some (element id name attributes children)
      else parent_below i children
  parent_in i (text id cs) = None

  pub parent_below : ℕ → Nodes → Option Node
  parent_below i no_nodes = None
  parent_below i (node n ns) = or_else (parent_in i n) (parent_below i ns)

-- the first of a list
abbrev pub first : List ℕ → Option ℕ
first [] = None
first (x ∷ xs) = Some x

-- what stands right after x
abbrev pub after : ℕ → List ℕ → Option ℕ
after x [] = None
after x (y ∷ ys) = if x == y then first ys else after x ys

-- what stands right before x, where `last` stands before the list
abbrev pub before : ℕ → Option ℕ → List ℕ → Option ℕ
before x last [] = None
before x last (y ∷ ys) = if x == y then last else before x (Some y) ys

-- the first child, the next and the previous sibling, and the parent of the node with this id
abbrev pub first_child_of : ℕ → Node → Option ℕ
first_child_of i root = option_and_then (λ n. first (ids_of (children_of n))) (find i root)

abbrev pub next_of : ℕ → Node → Option ℕ
next_of i root = option_and_then (λ p. after i (ids_of (children_of p))) (parent_in i root)

abbrev pub prev_of : ℕ → Node → Option ℕ
prev_of i root = option_and_then (λ p. before i None (ids_of (children_of p))) (parent_in i root)

abbrev pub parent_of : ℕ → Node → Option ℕ
parent_of i root = option_and_then (λ p. Some (id_of p)) (parent_in i root)

-- the name, the code points, the attributes and an attribute's value of the node with this id
abbrev pub name_at : ℕ → Node → Option Text
name_at i root = option_and_then name_of (find i root)

abbrev pub text_at : ℕ → Node → Option Text
text_at i root = option_and_then text_of (find i root)

abbrev pub attributes_at : ℕ → Node → List Attribute
attributes_at i root = unwrap_or (option_map attributes_of (find i root)) []

abbrev pub value_at : Text → ℕ → Node → Option Text
value_at name i root = value_of name (attributes_at i root)

-- the ids of the children of the node with this id, or none where there is no such node
abbrev pub child_ids : ℕ → Node → List ℕ
child_ids i root = unwrap_or (option_map (λ n. ids_of (children_of n)) (find i root)) []

-- how many nodes there are
abbrev pub node_count : Node → ℕ
node_count n = length (ids n)

-- how deep the deepest node stands, where this one stands at 1
abbrev mutual
  pub height : Node → ℕ
  height (element id name attributes children) = suc (heights children)
  height (text id cs) = 1

  pub heights : Nodes → ℕ
  heights no_nodes = 0
  heights (node n ns) = max (height n) (heights ns)
