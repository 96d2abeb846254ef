-- The children of a `Tree` as plain trees, up to an index and behind it.
use Rattle.std.proofs.Common.{List, [], ap, arith, drop, length, map, slice_index_or, suc, take, ℕ, ◌++◌, ◌+◌, ◌<◌, ◌∙◌, ◌∷◌, ◌≡◌}
use Rattle.std.proofs.lemmas.List.{map-append}
use Rattle.dom_arena.proofs.Lists.{cut-at, take-next}
use Rattle.dom_arena.specs.Shape.{shape}
use Rattle.dom_arena.specs.declared.tree.Tree.{Tree}

-- the children before an index, the child there, and those behind
pub shapes-cut : (ts : List Tree) (i : ℕ) (t : Tree) → i < length ts → t ≡ slice_index_or ts i t → map shape ts ≡ map shape (take i ts) ++ shape t ∷ map shape (drop (suc i) ts)
shapes-cut ts i t w e = ap (map shape) (cut-at ts i t w e) ∙ map-append shape (take i ts) (t ∷ drop (suc i) ts)

-- one child more
pub shapes-next : (ts : List Tree) (i : ℕ) (t : Tree) → i < length ts → t ≡ slice_index_or ts i t → map shape (take (i + 1) ts) ≡ map shape (take i ts) ++ shape t ∷ []
shapes-next ts i t w e =
    let one : i + 1 ≡ suc i = omega arith in
    ap (λ n. map shape (take n ts)) one ∙ (ap (map shape) (take-next ts i t w e) ∙ map-append shape (take i ts) (t ∷ []))
