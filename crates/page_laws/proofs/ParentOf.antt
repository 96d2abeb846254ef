-- The parent of a node is the one that has it in its list of children.
use Rattle.std.proofs.Common.{None, Option, Some, [], ap, false, inl, inr, option_and_then, option_map, refl, subst, sym, true, unwrap_or, ℕ, ◌==◌, ◌∙◌, ◌≡◌}
use Rattle.std.proofs.lemmas.Option.{none-some, same_Some}
use Rattle.page_laws.proofs.Find.{absent-none, among-children, among-top, child-below, find-id, find-part, find-top, find_in-part}
use Rattle.page_laws.proofs.IsAmong.{among-is_among, among-left, among-other, among-right, distinct-apart, distinct-left, distinct-right, is_among-true, not-among}
use Rattle.page_laws.proofs.Options.{if-found, none-or-some, or-found}
use Rattle.page_model.specs.Document.{AreDistinct, IsAmong, Node, Nodes, after, all_ids, before, child_ids, children_of, element, find, find_in, first, first_child_of, id_of, ids, ids_of, is_among, next_of, no_nodes, node, parent_below, parent_in, parent_of, prev_of, text}

mutual
  -- the node is among its children
  pub parent-child : (i : ℕ) (n p : Node) → parent_in i n ≡ Some p → IsAmong i (ids_of (children_of p))
  parent-child i (element id name attributes children) p h = elim (if-found (is_among i (ids_of children)) (element id name attributes children) p (parent_below i children) h) [
    | inl e ↦ subst (λ (m : Node). IsAmong i (ids_of (children_of m))) (same_Some (element id name attributes children) p e.1) (is_among-true i (ids_of children) e.0)
    | inr e ↦ parent_below-child i children p e.1
  ]
  parent-child i (text id cs) p h = absurd (none-some p h)

  pub parent_below-child : (i : ℕ) (ns : Nodes) (p : Node) → parent_below i ns ≡ Some p → IsAmong i (ids_of (children_of p))
  parent_below-child i no_nodes p h = absurd (none-some p h)
  parent_below-child i (node n ns) p h = elim (or-found (parent_in i n) (parent_below i ns) p h) [
    | inl e ↦ parent-child i n p e
    | inr e ↦ parent_below-child i ns p e.1
  ]

-- a child and its parent are among the numbers
mutual
  pub parent-among : (i : ℕ) (n x : Node) → parent_in i n ≡ Some x → IsAmong i (ids n) × IsAmong (id_of x) (ids n)
  parent-among i (element id name attributes children) x h = elim (if-found (is_among i (ids_of children)) (element id name attributes children) x (parent_below i children) h) [
    | inl k ↦ (inr (among-children i children (is_among-true i (ids_of children) k.0)), inl (sym (ap id_of (same_Some (element id name attributes children) x k.1))))
    | inr k ↦ let both = all_parent-among i children x k.1 in (inr both.0, inr both.1)
  ]
  parent-among i (text id cs) x h = absurd (none-some x h)

  pub all_parent-among : (i : ℕ) (ns : Nodes) (x : Node) → parent_below i ns ≡ Some x → IsAmong i (all_ids ns) × IsAmong (id_of x) (all_ids ns)
  all_parent-among i no_nodes x h = absurd (none-some x h)
  all_parent-among i (node n ns) x h = elim (or-found (parent_in i n) (parent_below i ns) x h) [
    | inl k ↦ let both = parent-among i n x k in (among-left i (ids n) (all_ids ns) both.0, among-left (id_of x) (ids n) (all_ids ns) both.1)
    | inr k ↦ let both = all_parent-among i ns x k.1 in (among-right i (ids n) (all_ids ns) both.0, among-right (id_of x) (ids n) (all_ids ns) both.1)
  ]

pub parent-absent : (i : ℕ) (n : Node) → (IsAmong i (ids n) → ⊥) → parent_in i n ≡ None
parent-absent i n out = elim (none-or-some (parent_in i n)) [
  | inl none ↦ none
  | inr some ↦ absurd (out (parent-among i n some.0 some.1).0)
]

mutual
  pub parent-found : (j : ℕ) (n x : Node) → AreDistinct (ids n) → parent_in j n ≡ Some x → find (id_of x) n ≡ Some x
  parent-found j (element id name attributes children) x d h = elim (if-found (is_among j (ids_of children)) (element id name attributes children) x (parent_below j children) h) [
    | inl k ↦ subst (λ (y : Node). find (id_of y) (element id name attributes children) ≡ Some y) (same_Some (element id name attributes children) x k.1) (find-top (element id name attributes children))
    | inr k ↦
        let other : (id_of x == id) ≡ false = among-other (id_of x) id (all_ids children) d (all_parent-among j children x k.1).1 in
        rw other (parent_below-found j children x d.1 k.1)
  ]
  parent-found j (text id cs) x d h = absurd (none-some x h)

  pub parent_below-found : (j : ℕ) (ns : Nodes) (x : Node) → AreDistinct (all_ids ns) → parent_below j ns ≡ Some x → find_in (id_of x) ns ≡ Some x
  parent_below-found j no_nodes x d h = absurd (none-some x h)
  parent_below-found j (node n ns) x d h = elim (or-found (parent_in j n) (parent_below j ns) x h) [
    | inl k ↦
        let here : find (id_of x) n ≡ Some x = parent-found j n x (distinct-left (ids n) (all_ids ns) d) k in
        rw here refl
    | inr k ↦
        let none : find (id_of x) n ≡ None = absent-none (id_of x) n (λ m. distinct-apart (id_of x) (ids n) (all_ids ns) d m (all_parent-among j ns x k.1).1) in
        rw none (parent_below-found j ns x (distinct-right (ids n) (all_ids ns) d) k.1)
  ]

-- a child of a node that is found is not the node that the search began with
pub child-lower : (p j : ℕ) (n x : Node) → AreDistinct (ids n) → find p n ≡ Some x → IsAmong j (ids_of (children_of x)) → j ≡ id_of n → ⊥
child-lower p j (element id name attributes children) x d h k e = elim (if-found (p == id) (element id name attributes children) x (find_in p children) h) [
  | inl a ↦
      let kid : IsAmong j (ids_of children) = subst (λ (y : Node). IsAmong j (ids_of (children_of y))) (sym (same_Some (element id name attributes children) x a.1)) k in
      d.0 (subst (λ (i : ℕ). IsAmong i (all_ids children)) e (among-children j children kid))
  | inr a ↦ d.0 (subst (λ (i : ℕ). IsAmong i (all_ids children)) e (find_in-part p children x j a.1 (child-below j x k)))
]
child-lower p j (text id cs) x d h k e = elim (if-found (p == id) (text id cs) x None h) [
  | inl a ↦ subst (λ (y : Node). IsAmong j (ids_of (children_of y))) (sym (same_Some (text id cs) x a.1)) k
  | inr a ↦ none-some x a.1
]

-- and none of the nodes that the search began with
pub children-lower : (p j : ℕ) (ns : Nodes) (x : Node) → AreDistinct (all_ids ns) → find_in p ns ≡ Some x → IsAmong j (ids_of (children_of x)) → IsAmong j (ids_of ns) → ⊥
children-lower p j no_nodes x d h k m = m
children-lower p j (node n ns) x d h k m = elim (or-found (find p n) (find_in p ns) x h) [
  | inl a ↦
      let here : IsAmong j (ids n) = find-part p n x j a (child-below j x k) in
      elim m [
        | inl e ↦ child-lower p j n x (distinct-left (ids n) (all_ids ns) d) a k e
        | inr b ↦ distinct-apart j (ids n) (all_ids ns) d here (among-children j ns b)
      ]
  | inr a ↦
      let there : IsAmong j (all_ids ns) = find_in-part p ns x j a.1 (child-below j x k) in
      elim m [
        | inl e ↦ distinct-apart j (ids n) (all_ids ns) d (subst (λ (i : ℕ). IsAmong i (ids n)) (sym e) (among-top n)) there
        | inr b ↦ children-lower p j ns x (distinct-right (ids n) (all_ids ns) d) a.1 k b
      ]
]

mutual
  pub found-parent : (p j : ℕ) (n x : Node) → AreDistinct (ids n) → find p n ≡ Some x → IsAmong j (ids_of (children_of x)) → parent_in j n ≡ Some x
  found-parent p j (element id name attributes children) x d h k = elim (if-found (p == id) (element id name attributes children) x (find_in p children) h) [
    | inl a ↦
        let same : element id name attributes children ≡ x = same_Some (element id name attributes children) x a.1 in
        let kid : is_among j (ids_of children) ≡ true = among-is_among j (ids_of children) (subst (λ (y : Node). IsAmong j (ids_of (children_of y))) (sym same) k) in
        rw kid (ap Some same)
    | inr a ↦
        let other : is_among j (ids_of children) ≡ false = not-among j (ids_of children) (children-lower p j children x d.1 a.1 k) in
        rw other (found_in-parent p j children x d.1 a.1 k)
  ]
  found-parent p j (text id cs) x d h k = elim (if-found (p == id) (text id cs) x None h) [
    | inl a ↦ absurd (subst (λ (y : Node). IsAmong j (ids_of (children_of y))) (sym (same_Some (text id cs) x a.1)) k)
    | inr a ↦ absurd (none-some x a.1)
  ]

  pub found_in-parent : (p j : ℕ) (ns : Nodes) (x : Node) → AreDistinct (all_ids ns) → find_in p ns ≡ Some x → IsAmong j (ids_of (children_of x)) → parent_below j ns ≡ Some x
  found_in-parent p j no_nodes x d h k = absurd (none-some x h)
  found_in-parent p j (node n ns) x d h k = elim (or-found (find p n) (find_in p ns) x h) [
    | inl a ↦
        let here : parent_in j n ≡ Some x = found-parent p j n x (distinct-left (ids n) (all_ids ns) d) a k in
        rw here refl
    | inr a ↦
        let there : IsAmong j (all_ids ns) = find_in-part p ns x j a.1 (child-below j x k) in
        let none : parent_in j n ≡ None = parent-absent j n (λ m. distinct-apart j (ids n) (all_ids ns) d m there) in
        rw none (found_in-parent p j ns x (distinct-right (ids n) (all_ids ns) d) a.1 k)
  ]

pub child_ids-found : (i : ℕ) (root x : Node) → find i root ≡ Some x → child_ids i root ≡ ids_of (children_of x)
child_ids-found i root x h = ap (λ (o : Option Node). unwrap_or (option_map (λ n. ids_of (children_of n)) o) []) h

-- the node that is the parent
pub parent-node : (root : Node) (j p : ℕ) → AreDistinct (ids root) → parent_of j root ≡ Some p → (x : Node) × (parent_in j root ≡ Some x) × (find p root ≡ Some x)
parent-node root j p d h = elim (none-or-some (parent_in j root)) [
  | inl none ↦ absurd (none-some p (sym (ap (option_and_then (λ n. Some (id_of n))) none) ∙ h))
  | inr some ↦
      let same : id_of some.0 ≡ p = same_Some (id_of some.0) p (sym (ap (option_and_then (λ n. Some (id_of n))) some.1) ∙ h) in
      (some.0, some.1, subst (λ (i : ℕ). find i root ≡ Some some.0) same (parent-found j root some.0 d some.1))
]

-- the node that has the child
pub child-node : (root : Node) (j p : ℕ) → IsAmong j (child_ids p root) → (x : Node) × (find p root ≡ Some x) × IsAmong j (ids_of (children_of x))
child-node root j p h = elim (none-or-some (find p root)) [
  | inl none ↦ absurd (subst (IsAmong j) (ap (λ (o : Option Node). unwrap_or (option_map (λ n. ids_of (children_of n)) o) []) none) h)
  | inr some ↦ (some.0, some.1, subst (IsAmong j) (child_ids-found p root some.0 some.1) h)
]

pub parent-lists : (root : Node) (j p : ℕ) → AreDistinct (ids root) → parent_of j root ≡ Some p → IsAmong j (child_ids p root)
parent-lists root j p d h =
    let x = parent-node root j p d h in
    subst (IsAmong j) (sym (child_ids-found p root x.0 x.2)) (parent-child j root x.0 x.1)

pub listed-parent : (root : Node) (j p : ℕ) → AreDistinct (ids root) → IsAmong j (child_ids p root) → parent_of j root ≡ Some p
listed-parent root j p d h =
    let x = child-node root j p h in
    ap (option_and_then (λ n. Some (id_of n))) (found-parent p j root x.0 d x.1 x.2) ∙ ap Some (sym (find-id p root x.0 x.1))

-- where the same lists have a node, it has the same parent
pub same-parent : (j : ℕ) (a b : Node) → AreDistinct (ids a) → AreDistinct (ids b)
    → ((p : ℕ) → IsAmong j (child_ids p a) → IsAmong j (child_ids p b)) → ((p : ℕ) → IsAmong j (child_ids p b) → IsAmong j (child_ids p a)) → parent_of j a ≡ parent_of j b
same-parent j a b d e to from = elim (none-or-some (parent_of j a)) [
  | inl none ↦ elim (none-or-some (parent_of j b)) [
    | inl other ↦ none ∙ sym other
    | inr some ↦ absurd (none-some some.0 (sym none ∙ listed-parent a j some.0 d (from some.0 (parent-lists b j some.0 e some.1))))
  ]
  | inr some ↦ some.1 ∙ sym (listed-parent b j some.0 e (to some.0 (parent-lists a j some.0 d some.1)))
]

pub next-listed : (root : Node) (j p : ℕ) → AreDistinct (ids root) → parent_of j root ≡ Some p → next_of j root ≡ after j (child_ids p root)
next-listed root j p d h =
    let x = parent-node root j p d h in
    ap (option_and_then (λ n. after j (ids_of (children_of n)))) x.1 ∙ sym (ap (after j) (child_ids-found p root x.0 x.2))

pub prev-listed : (root : Node) (j p : ℕ) → AreDistinct (ids root) → parent_of j root ≡ Some p → prev_of j root ≡ before j None (child_ids p root)
prev-listed root j p d h =
    let x = parent-node root j p d h in
    ap (option_and_then (λ n. before j None (ids_of (children_of n)))) x.1 ∙ sym (ap (before j None) (child_ids-found p root x.0 x.2))

pub first-of : (o : Option Node) → option_and_then (λ n. first (ids_of (children_of n))) o ≡ first (unwrap_or (option_map (λ n. ids_of (children_of n)) o) [])
first-of (Some n) = refl
first-of None = refl

pub first-listed : (root : Node) (j : ℕ) → first_child_of j root ≡ first (child_ids j root)
first-listed root j = first-of (find j root)
