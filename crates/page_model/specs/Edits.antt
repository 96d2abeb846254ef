-- The document after an edit, and why an edit is refused.
use Rattle.std.specs.Prelude.{Bool, List, None, Option, Some, [], false, if◌then◌else◌, is_none, is_some, length, nat_lt, not, option_map, suc, unwrap_or, zero, ℕ, ◌+◌, ◌==◌, ◌++◌, ◌||◌, ◌∷◌}
use Rattle.page_model.specs.Attributes.{with_attribute, without_attribute}
use Rattle.page_model.specs.Document.{Document, Node, Nodes, attributes_at, child_ids, ids, element, find, height, id_of, is_among, name_at, no_nodes, node, node_count, or_else, text, with_ids, without_ids}
use Rattle.page_model.specs.Names.{is_name}
use Rattle.page_model.specs.Refusals.{Causes}
use Rattle.page_model.specs.Trees.{Attribute, Text, Tree, depth, has_bad_name, has_long_text, has_many_attributes, is_long, size, text_size}
use Rattle.page_model.specs.declared.limits.TheConstants.{MAX_ATTRIBUTES, MAX_DEPTH, MAX_IDS, MAX_NODES, MAX_TEXTS}
use Rattle.page_model.specs.declared.cause.Cause.TheVariants.{NoNode, NotElement, NotText, IsRoot, Cycle, BadIndex, BadName, DepthLimit, NodeLimit, TextLimit, IdLimit, AttrLimit}

-- ---- the tree after an edit

-- these nodes and `new`, with `index` of them before it; where there are fewer it is the last
abbrev pub with_child : ℕ → Node → Nodes → Nodes
with_child zero new ns = node new ns
with_child (suc k) new no_nodes = node new no_nodes
with_child (suc k) new (node n ns) = node n (with_child k new ns)

-- the tree in which `new` is the child at `index` of the element `parent` (DOM section 4.2.3, insert)
abbrev mutual
  pub tree_after_insert : ℕ → ℕ → Node → Node → Node
  tree_after_insert parent index new (element id name attributes children) =
      element id name attributes
      (if parent == id then with_child index new children
      else nodes_after_insert parent index new children)
  tree_after_insert parent index new (text id cs) = text id cs

  pub nodes_after_insert : ℕ → ℕ → Node → Nodes → Nodes
  nodes_after_insert parent index new no_nodes = no_nodes
  nodes_after_insert parent index new (node n ns) = node (tree_after_insert parent index new n)
      (nodes_after_insert parent index new ns)

-- the tree without the node `i` and all below it; the root stays (DOM section 4.2.3, remove)
abbrev mutual
  pub tree_after_remove : ℕ → Node → Node
  tree_after_remove i (element id name attributes children) = element id name attributes
      (nodes_after_remove i children)
  tree_after_remove i (text id cs) = text id cs

  pub nodes_after_remove : ℕ → Nodes → Nodes
  nodes_after_remove i no_nodes = no_nodes
  nodes_after_remove i (node n ns) =
      if i == id_of n then nodes_after_remove i ns
      else node (tree_after_remove i n) (nodes_after_remove i ns)

-- the tree in which the node `i` is the child at `index` of the element `parent`; `index` counts the children without it
abbrev pub tree_after_move : ℕ → ℕ → ℕ → Node → Node
tree_after_move i parent index root =
    unwrap_or (option_map (λ n. tree_after_insert parent index n (tree_after_remove i root))
    (find i root)) root

-- the tree in which the attributes of the element `i`, or the code points of the text `i`, are what these functions give
abbrev mutual
  pub tree_after_change : ℕ → (List Attribute → List Attribute) → (Text → Text) → Node → Node
  tree_after_change i attributes_after text_after (element id name attributes children) =
      element id name (if i == id then attributes_after attributes else attributes)
      (nodes_after_change i attributes_after text_after children)
  tree_after_change i attributes_after text_after (text id cs) =
      text id (if i == id then text_after cs else cs)

  pub nodes_after_change : ℕ → (List Attribute → List Attribute) → (Text → Text) → Nodes → Nodes
  nodes_after_change i attributes_after text_after no_nodes = no_nodes
  nodes_after_change i attributes_after text_after (node n ns) =
      node (tree_after_change i attributes_after text_after n)
      (nodes_after_change i attributes_after text_after ns)

-- the tree in which the attribute `name` of the element `i` has this value
abbrev pub tree_after_set_attr : ℕ → Text → Text → Node → Node
tree_after_set_attr i name value root = tree_after_change i (with_attribute name value) (λ cs. cs) root

-- the tree in which the element `i` has no attribute `name`
abbrev pub tree_after_drop_attr : ℕ → Text → Node → Node
tree_after_drop_attr i name root = tree_after_change i (without_attribute name) (λ cs. cs) root

-- the tree in which the text `i` has these code points
abbrev pub tree_after_set_text : ℕ → Text → Node → Node
tree_after_set_text i cs root = tree_after_change i (λ attributes. attributes) (λ _. cs) root

-- ---- the document after an edit

-- the nodes of the new tree get the next ids, in document order
abbrev pub document_after_insert : ℕ → ℕ → Tree → Document → Document
document_after_insert parent index t d = record {
  root = tree_after_insert parent index (with_ids d.next_id t) d.root;
  next_id = d.next_id + size t;
}

-- the ids of nodes that are removed are not given again
abbrev pub document_after_remove : ℕ → Document → Document
document_after_remove i d = record { root = tree_after_remove i d.root; next_id = d.next_id }

abbrev pub document_after_move : ℕ → ℕ → ℕ → Document → Document
document_after_move i parent index d =
    record { root = tree_after_move i parent index d.root; next_id = d.next_id }

abbrev pub document_after_set_attr : ℕ → Text → Text → Document → Document
document_after_set_attr i name value d =
    record { root = tree_after_set_attr i name value d.root; next_id = d.next_id }

abbrev pub document_after_drop_attr : ℕ → Text → Document → Document
document_after_drop_attr i name d = record { root = tree_after_drop_attr i name d.root; next_id = d.next_id }

abbrev pub document_after_set_text : ℕ → Text → Document → Document
document_after_set_text i cs d = record { root = tree_after_set_text i cs d.root; next_id = d.next_id }

-- ---- causes of refusals, in the order in which they are asked

-- the level of the node `i`, where the root stands at level 1
abbrev mutual
  pub level : ℕ → Node → Option ℕ
  level i (element id name attributes children) =
      if i == id then Some 1 else option_map (λ l. suc l) (level_in i children)
  level i (text id cs) = if i == id then Some 1 else None

  pub level_in : ℕ → Nodes → Option ℕ
  level_in i no_nodes = None
  level_in i (node n ns) = or_else (level i n) (level_in i ns)

abbrev pub child_count : ℕ → Node → ℕ
child_count i root = length (child_ids i root)

-- how much of the limits is taken where a new tree is to stand: the level above it, the nodes, ids and code points before it
pub record Taken : Type 0 where
  pub level : ℕ
  pub nodes : ℕ
  pub ids : ℕ
  pub code_points : ℕ

abbrev pub nothing_taken : Taken
nothing_taken = record { level = 0; nodes = 0; ids = 0; code_points = 0 }

-- what is taken below the element `parent` of a document
abbrev pub taken_below : ℕ → Document → Taken
taken_below parent d = record {
  level = unwrap_or (level parent d.root) 0;
  nodes = node_count d.root;
  ids = d.next_id;
  code_points = text_size (without_ids d.root);
}

-- what no new tree may have: a name that is not in the grammar of names, too many attributes, too long texts
abbrev pub grammar_causes : Taken → Tree → Causes
grammar_causes taken t =
    (has_bad_name t, BadName)
    ∷ (has_many_attributes t, AttrLimit)
    ∷ (has_long_text t || nat_lt MAX_TEXTS (taken.code_points + text_size t), TextLimit)
    ∷ []

-- what no new tree may be: too deep, or more nodes or ids than are left
abbrev pub size_causes : Taken → Tree → Causes
size_causes taken t =
    (nat_lt MAX_DEPTH (taken.level + depth t), DepthLimit)
    ∷ (nat_lt MAX_NODES (taken.nodes + size t), NodeLimit)
    ∷ (nat_lt MAX_IDS (taken.ids + size t), IdLimit)
    ∷ []

abbrev pub tree_causes : Taken → Tree → Causes
tree_causes taken t = grammar_causes taken t ++ size_causes taken t

-- a load replaces what was loaded
abbrev pub load_causes : Tree → Causes
load_causes t = tree_causes nothing_taken t

abbrev pub insert_causes : ℕ → ℕ → Tree → Document → Causes
insert_causes parent index t d =
    (is_none (find parent d.root), NoNode)
    ∷ (is_none (name_at parent d.root), NotElement)
    ∷ (nat_lt (child_count parent d.root) index, BadIndex)
    ∷ tree_causes (taken_below parent d) t

abbrev pub remove_causes : ℕ → Document → Causes
remove_causes i d = (is_none (find i d.root), NoNode) ∷ (i == id_of d.root, IsRoot) ∷ []

-- whether the node `j` is the node `i` or stands below it
abbrev pub is_within : ℕ → ℕ → Node → Bool
is_within i j root = unwrap_or (option_map (λ n. is_among j (ids n)) (find i root)) false

-- how many levels the node `i` and all below it have
abbrev pub height_at : ℕ → Node → ℕ
height_at i root = unwrap_or (option_map height (find i root)) 0

abbrev pub move_causes : ℕ → ℕ → ℕ → Document → Causes
move_causes i parent index d =
    (is_none (find i d.root) || is_none (find parent d.root), NoNode)
    ∷ (i == id_of d.root, IsRoot)
    ∷ (is_none (name_at parent d.root), NotElement)
    ∷ (is_within i parent d.root, Cycle)
    ∷ (nat_lt (child_count parent (tree_after_remove i d.root)) index, BadIndex)
    ∷ (nat_lt MAX_DEPTH (unwrap_or (level parent d.root) 0 + height_at i d.root), DepthLimit)
    ∷ []

-- whether all texts and values of attributes together have too many code points
abbrev pub is_over_text_limit : Node → Bool
is_over_text_limit root = nat_lt MAX_TEXTS (text_size (without_ids root))

abbrev pub set_attr_causes : ℕ → Text → Text → Document → Causes
set_attr_causes i name value d =
    (is_none (find i d.root), NoNode)
    ∷ (is_none (name_at i d.root), NotElement)
    ∷ (not (is_name name), BadName)
    ∷ (is_long value || is_over_text_limit (tree_after_set_attr i name value d.root), TextLimit)
    ∷ (nat_lt MAX_ATTRIBUTES (length (with_attribute name value (attributes_at i d.root))), AttrLimit)
    ∷ []

abbrev pub drop_attr_causes : ℕ → Document → Causes
drop_attr_causes i d = (is_none (find i d.root), NoNode) ∷ (is_none (name_at i d.root), NotElement) ∷ []

abbrev pub set_text_causes : ℕ → Text → Document → Causes
set_text_causes i cs d =
    (is_none (find i d.root), NoNode)
    ∷ (is_some (name_at i d.root), NotText)
    ∷ (is_long cs || is_over_text_limit (tree_after_set_text i cs d.root), TextLimit)
    ∷ []
