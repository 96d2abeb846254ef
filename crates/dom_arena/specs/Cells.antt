-- Nodes as an arena keeps them: each names its parent, its first and last child and the siblings beside it, by slot.
-- A tree of slots is a `Node` whose ids are the slots of its nodes.
use Rattle.std.specs.Prelude.{◌≡◌, ℕ, List, [], ◌∷◌, length, Option, Some, None, option_map}
use Rattle.page_model.specs.Document.{Node, id_of, children_of, ids_of, by_itself, find, first}
use Rattle.page_laws.specs.Limits.{own_text_size}

-- the links of a node to its parent and to its previous and next sibling
pub record Place : Type 0 where
  pub up : Option ℕ
  pub before : Option ℕ
  pub after : Option ℕ

-- a node by itself, its links to its first and last child, how many children it has, and how many code
-- points it has by itself
pub record Body : Type 0 where
  pub own : Node
  pub first : Option ℕ
  pub last : Option ℕ
  pub count : ℕ
  pub size : ℕ

-- the places and bodies by slot
pub record Cells : Type 0 where
  pub place : ℕ → Option Place
  pub body : ℕ → Option Body

-- the last of a list, where `last` stands before it
abbrev pub final : Option ℕ → List ℕ → Option ℕ
final last [] = last
final last (x ∷ xs) = final (Some x) xs

-- the first of a list, where `next` stands behind it
abbrev pub front : List ℕ → Option ℕ → Option ℕ
front [] next = next
front (x ∷ xs) next = Some x

-- these are siblings in this order, children of `up`; `last` is the sibling before them and `next` that after
abbrev pub AreChained : (ℕ → Option Place) → ℕ → Option ℕ → List ℕ → Option ℕ → Type 0
AreChained place up last [] next = Unit {0}
AreChained place up last (x ∷ xs) next =
    (place x ≡ Some (record { up = Some up; before = last; after = front xs next })) × AreChained place up (Some x) xs next

-- the body of a node with this list of children
abbrev pub body_with : Node → List ℕ → ℕ → Body
body_with own children size = record {
  own = own;
  first = first children;
  last = final None children;
  count = length children;
  size = size;
}

abbrev pub body_of : Node → Body
body_of n = body_with (by_itself n) (ids_of (children_of n)) (own_text_size n)

-- the cells have this node's body, and its children linked as siblings
abbrev pub IsLinked : Cells → Node → Type 0
IsLinked c n = (c.body (id_of n) ≡ Some (body_of n)) × AreChained c.place (id_of n) None (ids_of (children_of n)) None

-- they have each node of the tree so: the links are the tree
abbrev pub AreLinked : Cells → Node → Type 0
AreLinked c root = (i : ℕ) (n : Node) → find i root ≡ Some n → IsLinked c n

abbrev pub nowhere : Place
nowhere = record { up = None; before = None; after = None }

-- ---- writes

abbrev pub with_before : Option ℕ → Place → Place
with_before o p = record p { before = o }

abbrev pub with_after : Option ℕ → Place → Place
with_after o p = record p { after = o }

-- the node `t` became a child of `up`, between the siblings `last` and `next`
pub record Hooks (old new : ℕ → Option Place) (up t : ℕ) (last next : Option ℕ) : Type 0 where
  pub here : new t ≡ Some (record { up = Some up; before = last; after = next })
  pub before : (j : ℕ) → last ≡ Some j → new j ≡ option_map (with_after (Some t)) (old j)
  pub after : (j : ℕ) → next ≡ Some j → new j ≡ option_map (with_before (Some t)) (old j)
  pub others : (j : ℕ) → (j ≡ t → ⊥) → (last ≡ Some j → ⊥) → (next ≡ Some j → ⊥) → new j ≡ old j

-- the node `i` was taken out from between the siblings `last` and `next`
pub record Unhooks (old new : ℕ → Option Place) (i : ℕ) (last next : Option ℕ) : Type 0 where
  pub before : (j : ℕ) → last ≡ Some j → new j ≡ option_map (with_after next) (old j)
  pub after : (j : ℕ) → next ≡ Some j → new j ≡ option_map (with_before last) (old j)
  pub others : (j : ℕ) → (j ≡ i → ⊥) → (last ≡ Some j → ⊥) → (next ≡ Some j → ⊥) → new j ≡ old j
