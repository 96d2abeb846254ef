-- Siblings stand side by side.
use Rattle.std.proofs.Common.{List, None, Option, Some, [], ap, cond, eq-eqb, inl, inr, ne_eqb, refl, subst, sym, ℕ, ◌++◌, ◌∙◌, ◌∷◌, ◌≡◌}
use Rattle.page_laws.proofs.Find.{among-children, among-top, find-distinct}
use Rattle.page_laws.proofs.IsAmong.{among-right, distinct-apart, distinct-right}
use Rattle.page_laws.proofs.Options.{none-or-some}
use Rattle.page_laws.proofs.ParentOf.{listed-parent, next-listed, prev-listed}
use Rattle.page_model.specs.Document.{AreDistinct, IsAmong, Node, Nodes, after, all_ids, before, child_ids, children_of, element, find, first, id_of, ids, ids_of, next_of, no_nodes, node, parent_of, prev_of, text}

-- the next in a list is what stands behind
pub after-behind : (x : ℕ) (xs ys : List ℕ) → AreDistinct (xs ++ x ∷ ys) → after x (xs ++ x ∷ ys) ≡ first ys
after-behind x [] ys d = ap (λ b. cond b (first ys) (after x ys)) (eq-eqb x x refl)
after-behind x (y ∷ xs) ys d = rw (ne_eqb x y (λ e. d.0 (among-right y xs (x ∷ ys) (inl (sym e))))) (after-behind x xs ys d.1)

-- the previous in a list is what stands in front
pub before-front : (x y : ℕ) (last : Option ℕ) (xs ys : List ℕ) → AreDistinct (xs ++ x ∷ y ∷ ys) → before y last (xs ++ x ∷ y ∷ ys) ≡ Some x
before-front x y last [] ys d = rw (ne_eqb y x (λ e. d.0 (inl (sym e))), eq-eqb y y refl) refl
before-front x y last (z ∷ xs) ys d =
    rw (ne_eqb y z (λ e. d.0 (among-right z xs (x ∷ y ∷ ys) (inr (inl (sym e)))))) (before-front x y (Some z) xs ys d.1)

pub after-next : (x y : ℕ) (xs ys : List ℕ) → AreDistinct (xs ++ x ∷ y ∷ ys) → after x (xs ++ x ∷ y ∷ ys) ≡ Some y
after-next x y xs ys d = after-behind x xs (y ∷ ys) d

-- ---- the list of children of a node has each child once

tops-distinct : (ns : Nodes) → AreDistinct (all_ids ns) → AreDistinct (ids_of ns)
tops-distinct no_nodes d = tt
tops-distinct (node n ns) d = (λ a. distinct-apart (id_of n) (ids n) (all_ids ns) d (among-top n) (among-children (id_of n) ns a), tops-distinct ns (distinct-right (ids n) (all_ids ns) d))

pub children-distinct : (n : Node) → AreDistinct (ids n) → AreDistinct (ids_of (children_of n))
children-distinct (element id name attributes children) d = tops-distinct children d.1
children-distinct (text id cs) d = tt

pub list-distinct : (p : ℕ) (root : Node) → AreDistinct (ids root) → AreDistinct (child_ids p root)
list-distinct p root d = elim (none-or-some (find p root)) [
  | inl none ↦ rw none tt
  | inr some ↦ rw some.1 (children-distinct some.0 (find-distinct p root some.0 some.1 d))
]

pub next-sibling : (root : Node) (p x y : ℕ) (xs ys : List ℕ) → AreDistinct (ids root) → child_ids p root ≡ xs ++ x ∷ y ∷ ys → next_of x root ≡ Some y
next-sibling root p x y xs ys d list =
    let up : parent_of x root ≡ Some p = listed-parent root x p d (subst (IsAmong x) (sym list) (among-right x xs (x ∷ y ∷ ys) (inl refl))) in
    next-listed root x p d up ∙ (ap (after x) list ∙ after-next x y xs ys (subst AreDistinct list (list-distinct p root d)))

pub previous-sibling : (root : Node) (p x y : ℕ) (xs ys : List ℕ) → AreDistinct (ids root) → child_ids p root ≡ xs ++ x ∷ y ∷ ys → prev_of y root ≡ Some x
previous-sibling root p x y xs ys d list =
    let up : parent_of y root ≡ Some p = listed-parent root y p d (subst (IsAmong y) (sym list) (among-right y xs (x ∷ y ∷ ys) (inr (inl refl)))) in
    prev-listed root y p d up ∙ (ap (before y None) list ∙ before-front x y None xs ys (subst AreDistinct list (list-distinct p root d)))
