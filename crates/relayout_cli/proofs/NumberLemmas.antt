-- Numbers that no node has.
use Rattle.std.proofs.Common.{◌≡◌, ℕ, ◌<◌, ◌≤◌, Option, Some, None, is_some, true, refl, arith}
use Rattle.page_model.specs.Document.{Node, ids, find, IsAmong}
use Rattle.page_laws.proofs.Find.{find-among}

none-at : (o : Option Node) → (is_some o ≡ true → ⊥) → o ≡ None
none-at None h = refl
none-at (Some n) h = absurd (h refl)

-- where all numbers are below the next one, a number past it is of no node
pub find-past : (i next : ℕ) (root : Node) → ((j : ℕ) → IsAmong j (ids root) → j < next) → next ≤ i → find i root ≡ None
find-past i next root below h = none-at (find i root) (λ s. let less = below i (find-among i root s) in absurd (omega (arith, less, h)))
