-- The cells after a tree was moved, and those of a tree of which none was written.
use Rattle.std.proofs.Common.{IsSome, List, Some, false, ℕ, ◌==◌, ◌∙◌, ◌≡◌}
use Rattle.dom_arena.proofs.Attached.{Attaches, linked-attached}
use Rattle.dom_arena.proofs.Chains.{chain-same}
use Rattle.dom_arena.proofs.Detached.{Detaches, linked-detached, linked-taken}
use Rattle.dom_arena.specs.Cells.{AreLinked, Cells}
use Rattle.page_laws.proofs.Find.{among-top, child-below, find-distinct, find-part}
use Rattle.page_laws.proofs.Spliced.{part-apart}
use Rattle.page_laws.proofs.TreeAfterRemove.{distinct-removed, ids-removed}
use Rattle.page_model.specs.Document.{AreDistinct, IsAmong, Node, children_of, find, id_of, ids, ids_of, name_of}
use Rattle.page_model.specs.Edits.{tree_after_insert, tree_after_remove}

-- a node was taken from p and hung below q
pub linked-moved : (c c' c'' : Cells) (root m x y : Node) (p i q k : ℕ) (xs ys : List ℕ) → AreDistinct (ids root) → find i root ≡ Some m → (i == id_of root) ≡ false
    → find p root ≡ Some x → Detaches c c' p i x xs ys → find q (tree_after_remove i root) ≡ Some y → IsSome (name_of y) → Attaches c' c'' q k m y
    → AreLinked c root → AreLinked c'' (tree_after_insert q k m (tree_after_remove i root))
linked-moved c c' c'' root m x y p i q k xs ys d fm ne fx out fy named hung h =
    linked-attached c' c'' (tree_after_remove i root) m y q k (distinct-removed i root d) (find-distinct i root m fm d) (part-apart (ids root) (ids m) (ids (tree_after_remove i root)) (ids-removed i root m d fm ne) d) fy named hung
    (linked-detached c c' root x p i xs ys d fx out h) (linked-taken c c' root x m p i xs ys d fx fm out h)

-- none of its cells was written
pub linked-same : (c c' : Cells) (root : Node) → ((j : ℕ) → IsAmong j (ids root) → c'.place j ≡ c.place j) → ((j : ℕ) → IsAmong j (ids root) → c'.body j ≡ c.body j) → AreLinked c root → AreLinked c' root
linked-same c c' root places bodies h = λ i n f. (
  bodies (id_of n) (find-part i root n (id_of n) f (among-top n)) ∙ (h i n f).0,
  chain-same c.place c'.place (id_of n) _ (ids_of (children_of n)) _ (λ j a. places j (find-part i root n j f (child-below j n a))) (h i n f).1,
)
