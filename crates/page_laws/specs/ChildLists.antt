-- Lists of children, and the places in them.
use Rattle.std.specs.Prelude.{IsSome, List, [], drop, if◌then◌else◌, take, ℕ, ◌++◌, ◌==◌, ◌∷◌, ◌≤◌}
use Rattle.page_laws.specs.Ids.{HasGivenIds}
use Rattle.page_model.specs.Document.{Document, name_at}
use Rattle.page_model.specs.Edits.{child_count}

-- the node `parent` is an element of a document, so it can have children
abbrev pub TakesChildren : ℕ → Document → Type 0
TakesChildren parent d = HasGivenIds d × IsSome (name_at parent d.root)

-- the node `parent` takes children and has `index` of them at least, so a new child can stand at `index`
abbrev pub IsPlace : ℕ → ℕ → Document → Type 0
IsPlace parent index d = TakesChildren parent d × (index ≤ child_count parent d.root)

-- the ids with `x` at `index`, or behind all where there are fewer
abbrev pub ids_with : ℕ → ℕ → List ℕ → List ℕ
ids_with index x xs = take index xs ++ x ∷ drop index xs

-- the ids without `x`
abbrev pub ids_without : ℕ → List ℕ → List ℕ
ids_without x [] = []
ids_without x (y ∷ ys) = if x == y then ids_without x ys else y ∷ ids_without x ys
