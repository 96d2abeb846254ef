-- Elements by their ids.
use Rattle.std.specs.Prelude.{ℕ, IsSome}
use Rattle.page_model.specs.Document.{Node, name_at}

-- the node with this id is an element
abbrev pub IsElement : Node → ℕ → Type 0
IsElement root i = IsSome (name_at i root)
