-- The ids of trees and documents.
use Rattle.std.specs.Prelude.{IsSome, List, Some, [], suc, zero, ℕ, ◌++◌, ◌<◌, ◌∷◌, ◌≡◌, ◌≢◌}
use Rattle.page_model.specs.Document.{AreDistinct, Document, IsAmong, Node, find, id_of, ids, name_at}

-- `k` ids from `n` on
abbrev pub count_up : ℕ → ℕ → List ℕ
count_up n zero = []
count_up n (suc k) = n ∷ count_up (suc n) k

-- no id stands twice, and each is below the one that the next new node gets
abbrev pub HasGivenIds : Document → Type 0
HasGivenIds d = AreDistinct (ids d.root) × ((i : ℕ) → IsAmong i (ids d.root) → i < d.next_id)

-- these are the rest in their order, with a run of others put in somewhere
abbrev pub HasRun : List ℕ → List ℕ → List ℕ → Type 0
HasRun all run rest = (front : List ℕ)
    × ((back : List ℕ) × (all ≡ front ++ (run ++ back)) × (rest ≡ front ++ back))

-- no id stands in both
abbrev pub AreApart : List ℕ → List ℕ → Type 0
AreApart xs ys = (x : ℕ) → IsAmong x xs → IsAmong x ys → ⊥

-- a tree can stand below an element of another: the ids of both are distinct and apart
pub record FitsBelow (parent : ℕ) (new root : Node) : Type 0 where
  pub distinct : AreDistinct (ids root)
  pub new_distinct : AreDistinct (ids new)
  pub apart : AreApart (ids new) (ids root)
  pub element : IsSome (name_at parent root)

-- the node `i` and all below it can be moved below the element `parent`
pub record CanMove (i parent : ℕ) (n root : Node) : Type 0 where
  pub distinct : AreDistinct (ids root)
  pub found : find i root ≡ Some n
  pub not_root : i ≢ id_of root
  pub element : IsSome (name_at parent root)
  pub outside : IsAmong parent (ids n) → ⊥
