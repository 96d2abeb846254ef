-- What the building of a tree, and its release, do to what is kept.
use Rattle.std.specs.Prelude.{◌≡◌, ◌⊎◌, ℕ, ◌+◌, ◌≤◌, List, [], ◌∷◌, length, Option, Some, None, slice_get}
use Rattle.page_model.specs.Trees.{Tree, size, text_size, text_sizes}
use Rattle.page_model.specs.Document.{Node, nodes_of, id_of, ids, ids_of, all_ids, with_ids, without_ids, all_without_ids, height, heights, IsAmong, AreDistinct}
use Rattle.dom_arena.specs.Cells.{Place, Body, Cells, AreLinked, AreChained, front, nowhere}
use Rattle.dom_arena.specs.Slots.{cells_of, place_at, id_at, IsLive}
use Rattle.dom_arena.specs.Stores.{Kept, IsStore}
use Rattle.dom_arena.specs.Rename.{rename}

-- a tree was built beside what lived: its nodes got the next ids, and its root, which hangs nowhere, is in the slot `s`
pub record Built (old new : Kept) (t : Tree) (s : ℕ) : Type 0 where
  pub store : IsStore new
  pub built : Node
  pub at : id_of built ≡ s
  pub linked : AreLinked (cells_of new.slots) built
  pub top : place_at new.slots s ≡ Some nowhere
  pub tree : rename (id_at new.slots) built ≡ with_ids (length old.table) t
  pub fresh : (x : ℕ) → IsAmong x (ids built) → IsLive old.slots x → ⊥
  pub same : (x : ℕ) → IsLive old.slots x → slice_get new.slots x ≡ slice_get old.slots x
  pub only : (x : ℕ) → IsLive new.slots x → IsLive old.slots x ⊎ IsAmong x (ids built)
  pub given : length new.table ≡ length old.table + size t
  pub live : new.live ≡ old.live + size t
  pub code_points : new.code_points ≡ old.code_points + text_size t

-- what lived lives as before, and nothing else; ids may have been given and lost
pub record Restored (old new : Kept) : Type 0 where
  pub store : IsStore new
  pub same : (x : ℕ) → IsLive old.slots x → slice_get new.slots x ≡ slice_get old.slots x
  pub only : (x : ℕ) → IsLive new.slots x → IsLive old.slots x
  pub given : length old.table ≤ length new.table
  pub live : new.live ≡ old.live
  pub code_points : new.code_points ≡ old.code_points

-- these nodes, which have `c` code points, live no more, and each other slot is as before
pub record Released (old new : Kept) (xs : List ℕ) (c : ℕ) : Type 0 where
  pub store : IsStore new
  pub gone : (x : ℕ) → IsAmong x xs → IsLive new.slots x → ⊥
  pub others : (x : ℕ) → (IsAmong x xs → ⊥) → slice_get new.slots x ≡ slice_get old.slots x
  pub given : length new.table ≡ length old.table
  pub live : new.live + length xs ≡ old.live
  pub code_points : new.code_points + c ≡ old.code_points

-- ---- branches

abbrev pub after_in : Option Place → Option ℕ
after_in None = None
after_in (Some p) = p.after

abbrev pub first_in : Option Body → Option ℕ
first_in None = None
first_in (Some b) = b.first

abbrev pub count_in : Option Body → ℕ
count_in None = 0
count_in (Some b) = b.count

-- the links from the slot `x` on are this tree, which is at most `levels` high
pub record IsBranch (k : Kept) (x levels : ℕ) (n : Node) : Type 0 where
  pub store : IsStore k
  pub linked : AreLinked (cells_of k.slots) n
  pub distinct : AreDistinct (ids n)
  pub at : id_of n ≡ x
  pub low : height n ≤ levels
  pub live : length (ids n) ≤ k.live
  pub code_points : text_size (without_ids n) ≤ k.code_points

-- each of these trees is linked
abbrev pub AreAllLinked : Cells → List Node → Type 0
AreAllLinked c [] = Unit {0}
AreAllLinked c (n ∷ ns) = AreLinked c n × AreAllLinked c ns

-- these trees are a chain of siblings from `first` on
pub record AreBranches (k : Kept) (begin : Option ℕ) (levels : ℕ) (ns : List Node) : Type 0 where
  pub store : IsStore k
  pub linked : AreAllLinked (cells_of k.slots) ns
  pub up : ℕ
  pub last : Option ℕ
  pub chain : AreChained (place_at k.slots) up last (ids_of (nodes_of ns)) None
  pub first : begin ≡ front (ids_of (nodes_of ns)) None
  pub distinct : AreDistinct (all_ids (nodes_of ns))
  pub low : heights (nodes_of ns) ≤ levels
  pub live : length (all_ids (nodes_of ns)) ≤ k.live
  pub code_points : text_sizes (all_without_ids (nodes_of ns)) ≤ k.code_points
