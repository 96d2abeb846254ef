-- What the readers find in cells, and the tree that cells are.
use Rattle.std.proofs.Common.{List, None, Option, Some, [], ap, arith, eqb-true, inl, inr, length, map, option_and_then, refl, subst, suc, sym, zero, ℕ, ◌==◌, ◌∙◌, ◌∷◌, ◌≡◌, ◌≤◌}
use Rattle.std.proofs.lemmas.Bool.{cases_Bool, eqb-false}
use Rattle.dom_arena.proofs.Found.{find-children}
use Rattle.dom_arena.specs.Cells.{AreChained, AreLinked, Cells, Place, front}
use Rattle.dom_arena.specs.Found.{AreFound}
use Rattle.dom_arena.specs.Reading.{below, node_of, siblings}
use Rattle.page_laws.proofs.Find.{find-id}
use Rattle.page_laws.proofs.ParentOf.{child-node, child_ids-found, next-listed, parent-lists, prev-listed}
use Rattle.page_model.specs.Document.{AreDistinct, IsAmong, Node, Nodes, after, before, child_ids, children_of, element, find, first, height, heights, id_of, ids, ids_of, next_of, no_nodes, node, nodes_of, parent_of, prev_of, text}

-- ---- places

pub front-first : (xs : List ℕ) → front xs None ≡ first xs
front-first [] = refl
front-first (x ∷ xs) = refl

chain-at : (place : ℕ → Option Place) (up : ℕ) (last : Option ℕ) (xs : List ℕ) (j : ℕ) → AreChained place up last xs None → IsAmong j xs
    → place j ≡ Some (record { up = Some up; before = before j last xs; after = after j xs })
chain-at place up last [] j h a = absurd a
chain-at place up last (x ∷ xs) j h a = elim (cases_Bool (j == x)) [
  | inl t ↦ rw t (ap place (eqb-true j x t) ∙ (h.0 ∙ ap (λ o. Some (record { up = Some up; before = last; after = o })) (front-first xs)))
  | inr f ↦ rw f (chain-at place up (Some x) xs j h.1 (elim a [
    | inl e ↦ absurd (eqb-false j x f e)
    | inr k ↦ k
  ]))
]

-- a child hangs where the tree says
pub place-child : (c : Cells) (root : Node) (j p : ℕ) → AreDistinct (ids root) → AreLinked c root → parent_of j root ≡ Some p
    → c.place j ≡ Some (record { up = Some p; before = prev_of j root; after = next_of j root })
place-child c root j p d h up =
    let listed : IsAmong j (child_ids p root) = parent-lists root j p d up in
    let x = child-node root j p listed in
    let number : p ≡ id_of x.0 = find-id p root x.0 x.1 in
    let list : child_ids p root ≡ ids_of (children_of x.0) = child_ids-found p root x.0 x.1 in
    let chain : AreChained c.place p None (child_ids p root) None =
    subst (λ (xs : List ℕ). AreChained c.place p None xs None) (sym list) (subst (λ (q : ℕ). AreChained c.place q None (ids_of (children_of x.0)) None) (sym number) (h p x.0 x.1).1) in
    chain-at c.place p None (child_ids p root) j chain listed
    ∙ λ q. Some (record { up = Some p; before = sym (prev-listed root j p d up) q; after = sym (next-listed root j p d up) q })

-- ---- the tree

pub siblings-chain : (place : ℕ → Option Place) (up many : ℕ) (last : Option ℕ) (xs : List ℕ) → AreChained place up last xs None → length xs ≤ many → siblings place many (first xs) ≡ xs
siblings-chain place up zero last [] h l = refl
siblings-chain place up (suc k) last [] h l = refl
siblings-chain place up zero last (x ∷ xs) h l = absurd (omega (arith, l))
siblings-chain place up (suc k) last (x ∷ xs) h l =
    ap (λ o. x ∷ siblings place k o) (ap (option_and_then (λ (p : Place). p.after)) h.0 ∙ front-first xs) ∙ ap (λ (r : List ℕ). x ∷ r) (siblings-chain place up k (Some x) xs h.1 (omega (arith, l)))

-- no list of children is longer than this
abbrev pub AreFew : ℕ → Node → Type 0
AreFew many root = (i : ℕ) (n : Node) → find i root ≡ Some n → length (ids_of (children_of n)) ≤ many

mutual
  unfolding below

  pub below-linked : (c : Cells) (root : Node) (many k : ℕ) (n : Node) → AreDistinct (ids root) → AreLinked c root → AreFew many root → find (id_of n) root ≡ Some n → height n ≤ k → below c many k (id_of n) ≡ n
  below-linked c root many zero (element id name attributes children) d h few f l = absurd (omega (arith, l))
  below-linked c root many zero (text id cs) d h few f l = absurd (omega (arith, l))
  below-linked c root many (suc k) (element id name attributes children) d h few f l =
      let linked = h id (element id name attributes children) f in
      ap (node_of c many (below c many k) id) linked.0
      ∙ (ap (λ xs. element id name attributes (nodes_of (map (below c many k) xs))) (siblings-chain c.place id many None (ids_of children) linked.1 (few id (element id name attributes children) f))
      ∙ ap (element id name attributes) (all_below-linked c root many k children d h few (find-children id root (element id name attributes children) d f) (omega (arith, l))))
  below-linked c root many (suc k) (text id cs) d h few f l = ap (node_of c many (below c many k) id) (h id (text id cs) f).0

  pub all_below-linked : (c : Cells) (root : Node) (many k : ℕ) (ns : Nodes) → AreDistinct (ids root) → AreLinked c root → AreFew many root → AreFound root ns → heights ns ≤ k → nodes_of (map (below c many k) (ids_of ns)) ≡ ns
  all_below-linked c root many k no_nodes d h few f l = refl
  all_below-linked c root many k (node n ns) d h few f l =
      let one : below c many k (id_of n) ≡ n = below-linked c root many k n d h few f.0 (omega (arith, l)) in
      let rest : nodes_of (map (below c many k) (ids_of ns)) ≡ ns = all_below-linked c root many k ns d h few f.1 (omega (arith, l)) in
      λ j. node (one j) (rest j)
