-- The tree that a JSON value stands for in JsonML's array form: a string is a text, and an array is an element: its
-- name first, then its attributes in an object if there is one, then its children.
use Rattle.std.specs.Prelude.{ℕ, List, [], ◌∷◌, Bool, if◌then◌else◌, Option, Some, None, is_some, option_and_then, option_map}
use Rattle.std.specs.Str.{chars}
use Rattle.serde_json.specs.Data.{Data, string, array, object, Items, no_items, item, Members, no_members, member}
use Rattle.serde_json.specs.Find.{as_str, as_object}
use Rattle.page_model.specs.Attributes.{with_attribute}
use Rattle.page_model.specs.Trees.{Text, Attribute, Tree, elem, characters, Trees, no_trees, tree, is_elem}

-- the attribute that a member is: its value is a string
abbrev pub attribute_of : List ℕ → Data → Option Attribute
attribute_of name d = option_map (λ value. (chars name, chars value)) (as_str d)

-- the attributes after a member was set among them
abbrev pub with_member : List Attribute → List ℕ → Data → Option (List Attribute)
with_member attributes name d =
    option_map (λ (a : Attribute). with_attribute a.0 a.1 attributes) (attribute_of name d)

-- the attributes after an object's members were set among them, one after another
abbrev pub with_members : List Attribute → Members → Option (List Attribute)
with_members attributes no_members = Some attributes
with_members attributes (member name d ms) =
    option_and_then (λ more. with_members more ms) (with_member attributes name d)

-- the attributes that an object's members are
abbrev pub attributes_of : Members → Option (List Attribute)
attributes_of ms = with_members [] ms

abbrev pub is_object : Data → Bool
is_object d = is_some (as_object d)

-- the attributes among the items after an element's name
abbrev pub attributes_at : Items → Option (List Attribute)
attributes_at (item (object ms) ds) = attributes_of ms
attributes_at ds = Some []

-- an element of its parts, if each was read
abbrev pub elem_from : Text → Option (List Attribute) → Option Trees → Option Tree
elem_from name None kids = None
elem_from name (Some attributes) kids = option_map (elem name attributes) kids

abbrev pub tree_and : Option Tree → Option Trees → Option Trees
tree_and t ts = option_and_then (λ first. option_map (tree first) ts) t

abbrev mutual
  pub tree_of : Data → Option Tree
  tree_of (string s) = Some (characters (chars s))
  tree_of (array ds) = element_of ds
  tree_of d = None

  pub element_of : Items → Option Tree
  element_of (item (string name) ds) = elem_from (chars name) (attributes_at ds) (children_of ds)
  element_of ds = None

  -- the children among the items after an element's name
  pub children_of : Items → Option Trees
  children_of no_items = Some no_trees
  children_of (item d ds) =
      if is_object d then trees_of_items ds else tree_and (tree_of d) (trees_of_items ds)

  pub trees_of_items : Items → Option Trees
  trees_of_items no_items = Some no_trees
  trees_of_items (item d ds) = tree_and (tree_of d) (trees_of_items ds)

-- the tree of a value that stands for an element
abbrev pub doc_of : Data → Option Tree
doc_of d = option_and_then (λ t. if is_elem t then Some t else None) (tree_of d)
