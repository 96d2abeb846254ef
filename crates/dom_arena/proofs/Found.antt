-- Where ids are distinct, each child of a node that is found is found itself.
use Rattle.std.proofs.Common.{List, None, Option, Some, ap, eqb-true, false, inl, inr, is_some, refl, subst, true, ℕ, ◌++◌, ◌==◌, ◌∙◌, ◌≡◌}
use Rattle.std.proofs.lemmas.Bool.{cases_Bool}
use Rattle.std.proofs.lemmas.Option.{none-some, same_Some}
use Rattle.dom_arena.specs.Found.{AreFound}
use Rattle.page_laws.proofs.Find.{find-among, find-top, find_in-among}
use Rattle.page_laws.proofs.IsAmong.{distinct-apart, distinct-left, distinct-right}
use Rattle.page_laws.proofs.Options.{if-found, or-found}
use Rattle.page_model.specs.Document.{AreDistinct, IsAmong, Node, Nodes, all_ids, children_of, element, find, find_in, id_of, ids, no_nodes, node, or_else, text}
use Rattle.page_model.specs.Trees.{Attribute, Text}

-- ---- each of these nodes is found in a list of nodes

abbrev AreFoundIn : Nodes → Nodes → Type 0
AreFoundIn ns no_nodes = Unit {0}
AreFoundIn ns (node k ks) = (find_in (id_of k) ns ≡ Some k) × AreFoundIn ns ks

none-or : {X : Type 0} (o p : Option X) → (is_some o ≡ true → ⊥) → or_else o p ≡ p
none-or None p h = refl
none-or (Some x) p h = absurd (h refl)

-- from the nodes of a list's head, or of its rest, to those of the list
found-head : (n : Node) (ns ks : Nodes) → AreFound n ks → AreFoundIn (node n ns) ks
found-head n ns no_nodes f = tt
found-head n ns (node k ks) f = (ap (λ o. or_else o (find_in (id_of k) ns)) f.0, found-head n ns ks f.1)

found-rest : (n : Node) (ns ks : Nodes) → AreDistinct (ids n ++ all_ids ns) → AreFoundIn ns ks → AreFoundIn (node n ns) ks
found-rest n ns no_nodes d f = tt
found-rest n ns (node k ks) d f = (
  none-or (find (id_of k) n) (find_in (id_of k) ns) (λ h. distinct-apart (id_of k) (ids n) (all_ids ns) d (find-among (id_of k) n h) (find_in-among (id_of k) ns (ap is_some f.0)))
      ∙ f.0,
  found-rest n ns ks d f.1,
)

-- from the nodes of the children of an element to those of the element
found-children : (id : ℕ) (name : Text) (attributes : List Attribute) (children ks : Nodes) → (IsAmong id (all_ids children) → ⊥) → AreFoundIn children ks → AreFound (element id name attributes children) ks
found-children id name attributes children no_nodes d f = tt
found-children id name attributes children (node k ks) d f =
    let ne : (id_of k == id) ≡ false = elim (cases_Bool (id_of k == id)) [
      | inl t ↦ absurd (d (subst (λ (n : ℕ). IsAmong n (all_ids children)) (eqb-true (id_of k) id t) (find_in-among (id_of k) children (ap is_some f.0))))
      | inr e ↦ e
    ] in
    (rw ne f.0, found-children id name attributes children ks d f.1)

-- each node of a list is found in the list
found-each : (ns : Nodes) → AreDistinct (all_ids ns) → AreFoundIn ns ns
found-each no_nodes d = tt
found-each (node n ns) d =
    (ap (λ o. or_else o (find_in (id_of n) ns)) (find-top n), found-rest n ns ns d (found-each ns (distinct-right (ids n) (all_ids ns) d)))

-- ---- the children of what is found

mutual
  pub find-children : (i : ℕ) (root n : Node) → AreDistinct (ids root) → find i root ≡ Some n → AreFound root (children_of n)
  find-children i (element id name attributes children) n d h =
      elim (if-found (i == id) (element id name attributes children) n (find_in i children) h) [
        | inl e ↦ subst (λ (m : Node). AreFound (element id name attributes children) (children_of m)) (same_Some _ _ e.1) (found-children id name attributes children children d.0 (found-each children d.1))
        | inr k ↦ found-children id name attributes children (children_of n) d.0 (find_in-children i children n d.1 k.1)
      ]
  find-children i (text id cs) n d h =
      elim (if-found (i == id) (text id cs) n None h) [
        | inl e ↦ subst (λ (m : Node). AreFound (text id cs) (children_of m)) (same_Some _ _ e.1) tt
        | inr k ↦ absurd (none-some n k.1)
      ]

  find_in-children : (i : ℕ) (ns : Nodes) (n : Node) → AreDistinct (all_ids ns) → find_in i ns ≡ Some n → AreFoundIn ns (children_of n)
  find_in-children i no_nodes n d h = absurd (none-some n h)
  find_in-children i (node m ms) n d h =
      elim (or-found (find i m) (find_in i ms) n h) [
        | inl k ↦ found-head m ms (children_of n) (find-children i m n (distinct-left (ids m) (all_ids ms) d) k)
        | inr k ↦ found-rest m ms (children_of n) d (find_in-children i ms n (distinct-right (ids m) (all_ids ms) d) k.1)
      ]
