-- The tree without a node and all below it.
use Rattle.std.proofs.Common.{Bool, IsSome, List, None, Option, Some, [], ap, arith, eq-eqb, eqb-true, false, inl, inr, is_some, max, ne_eqb, option_map, refl, subst, suc, sym, true, zero, ℕ, ◌+◌, ◌-◌, ◌==◌, ◌∙◌, ◌∷◌, ◌≡◌, ◌≤◌, ◌⊎◌}
use Rattle.std.proofs.lemmas.Bool.{cases_Bool, eqb-false, false≢true}
use Rattle.std.proofs.lemmas.Option.{none-some, same_Some}
use Rattle.page_laws.proofs.Find.{absent-none, among-find, among-top, child-below, find-among, find-id, find-part, find-top, find-within, found-absent, unfound-absent}
use Rattle.page_laws.proofs.IsAmong.{among-left, among-rest, among-right, among-split, distinct-apart, distinct-left, distinct-right}
use Rattle.page_laws.proofs.Levels.{level-element, level-found, level-text, level-top}
use Rattle.page_laws.proofs.Options.{none-or-some, or-false, or-found}
use Rattle.page_laws.proofs.ParentOf.{child-node, child_ids-found, same-parent}
use Rattle.page_laws.proofs.Spliced.{Spliced, part-apart, rest-distinct, spliced-among, spliced-cons, spliced-here, spliced-left, spliced-length, spliced-right}
use Rattle.page_laws.proofs.TreeAfterInsert.{id_of-inserted}
use Rattle.page_laws.specs.ChildLists.{ids_without}
use Rattle.page_laws.specs.Ids.{FitsBelow, HasRun}
use Rattle.page_model.specs.Document.{AreDistinct, IsAmong, Node, Nodes, all_ids, all_without_ids, by_itself, child_ids, children_of, element, find, find_in, height, heights, id_of, ids, ids_of, name_of, no_nodes, node, node_count, parent_of, text, without_ids}
use Rattle.page_model.specs.Edits.{level, level_in, nodes_after_insert, nodes_after_remove, tree_after_insert, tree_after_remove, with_child}
use Rattle.page_model.specs.Trees.{Attribute, Text, has_node, have_node, text_size, text_sizes}

pub id_of-removed : (i : ℕ) (n : Node) → id_of (tree_after_remove i n) ≡ id_of n
id_of-removed i (element id name attributes children) = refl
id_of-removed i (text id cs) = refl

pub name_of-removed : (i : ℕ) (n : Node) → name_of (tree_after_remove i n) ≡ name_of n
name_of-removed i (element id name attributes children) = refl
name_of-removed i (text id cs) = refl

mutual
  pub removed-absent : (i : ℕ) (n : Node) → (IsAmong i (ids n) → ⊥) → tree_after_remove i n ≡ n
  removed-absent i (element id name attributes children) out = ap (element id name attributes) (nodes_removed-absent i children (λ h. out (inr h)))
  removed-absent i (text id cs) out = refl

  pub nodes_removed-absent : (i : ℕ) (ns : Nodes) → (IsAmong i (all_ids ns) → ⊥) → nodes_after_remove i ns ≡ ns
  nodes_removed-absent i no_nodes out = refl
  nodes_removed-absent i (node n ns) out = elim (cases_Bool (i == id_of n)) [
    | inl t ↦ absurd (out (among-left i (ids n) (all_ids ns) (subst (λ (k : ℕ). IsAmong k (ids n)) (sym (eqb-true i (id_of n) t)) (among-top n))))
    | inr f ↦
        let first : tree_after_remove i n ≡ n = removed-absent i n (λ h. out (among-left i (ids n) (all_ids ns) h)) in
        let rest : nodes_after_remove i ns ≡ ns = nodes_removed-absent i ns (λ h. out (among-right i (ids n) (all_ids ns) h)) in
        rw f (λ j. node (first j) (rest j))
  ]

mutual
  pub ids-removed : (i : ℕ) (n x : Node) → AreDistinct (ids n) → find i n ≡ Some x → (i == id_of n) ≡ false → Spliced (ids n) (ids x) (ids (tree_after_remove i n))
  ids-removed i (element id name attributes children) x d h f =
      spliced-cons id (all_ids children) (ids x) (all_ids (nodes_after_remove i children)) (ids-nodes_removed i children x d.1 (rw f at h))
  ids-removed i (text id cs) x d h f = absurd (none-some x (rw f at h))

  pub ids-nodes_removed : (i : ℕ) (ns : Nodes) (x : Node) → AreDistinct (all_ids ns) → find_in i ns ≡ Some x → Spliced (all_ids ns) (ids x) (all_ids (nodes_after_remove i ns))
  ids-nodes_removed i no_nodes x d h = absurd (none-some x h)
  ids-nodes_removed i (node n ns) x d h = elim (cases_Bool (i == id_of n)) [
    | inl t ↦
        let top : find i n ≡ Some n = ap (λ k. find k n) (eqb-true i (id_of n) t) ∙ find-top n in
        let rest : nodes_after_remove i ns ≡ ns = nodes_removed-absent i ns (found-absent i n n ns d top) in
        let same : n ≡ x = same_Some n x (rw top at h) in
        rw (t, rest, ← same) (spliced-here (ids n) (all_ids ns))
    | inr f ↦ rw f (elim (or-found (find i n) (find_in i ns) x h) [
      | inl k ↦
          let rest : nodes_after_remove i ns ≡ ns = nodes_removed-absent i ns (found-absent i n x ns d k) in
          rw rest (spliced-right (all_ids ns) (ids n) (ids x) (ids (tree_after_remove i n)) (ids-removed i n x (distinct-left (ids n) (all_ids ns) d) k f))
      | inr k ↦
          let first : tree_after_remove i n ≡ n = removed-absent i n (unfound-absent i n k.0) in
          rw first (spliced-left (ids n) (all_ids ns) (ids x) (all_ids (nodes_after_remove i ns)) (ids-nodes_removed i ns x (distinct-right (ids n) (all_ids ns) d) k.1))
    ])
  ]

mutual
  pub height-removed : (i : ℕ) (n : Node) → height (tree_after_remove i n) ≤ height n
  height-removed i (element id name attributes children) = let below : heights (nodes_after_remove i children) ≤ heights children = heights-removed i children in omega (arith, below)
  height-removed i (text id cs) = omega arith

  pub heights-removed : (i : ℕ) (ns : Nodes) → heights (nodes_after_remove i ns) ≤ heights ns
  heights-removed i no_nodes = omega arith
  heights-removed i (node n ns) =
      let first : height (tree_after_remove i n) ≤ height n = height-removed i n in
      let rest : heights (nodes_after_remove i ns) ≤ heights ns = heights-removed i ns in
      elim (cases_Bool (i == id_of n)) [
        | inl t ↦ rw t (omega (arith, rest))
        | inr f ↦ rw f (omega (arith, first, rest))
      ]

-- at the root's own number it changes nothing
pub removed-top : (n : Node) → AreDistinct (ids n) → tree_after_remove (id_of n) n ≡ n
removed-top (element id name attributes children) d = ap (element id name attributes) (nodes_removed-absent id children d.0)
removed-top (text id cs) d = refl

-- it changes nothing, or the numbers of a subtree are gone
pub remove-numbers : (i : ℕ) (n : Node) → AreDistinct (ids n) → (tree_after_remove i n ≡ n) ⊎ ((x : Node) × Spliced (ids n) (ids x) (ids (tree_after_remove i n)))
remove-numbers i n d = elim (cases_Bool (i == id_of n)) [
  | inl t ↦ inl (ap (λ k. tree_after_remove k n) (eqb-true i (id_of n) t) ∙ removed-top n d)
  | inr f ↦ elim (none-or-some (find i n)) [
    | inl none ↦ inl (removed-absent i n (unfound-absent i n none))
    | inr some ↦ inr (some.0, ids-removed i n some.0 d some.1 f)
  ]
]

pub distinct-removed : (i : ℕ) (n : Node) → AreDistinct (ids n) → AreDistinct (ids (tree_after_remove i n))
distinct-removed i n d = elim (remove-numbers i n d) [
  | inl e ↦ subst AreDistinct (sym (ap ids e)) d
  | inr s ↦ rest-distinct (ids n) (ids s.0) (ids (tree_after_remove i n)) s.1 d
]

-- what is left was there
mutual
  pub among-kept : (i j : ℕ) (n : Node) → IsAmong j (ids (tree_after_remove i n)) → IsAmong j (ids n)
  among-kept i j (element id name attributes children) (inl e) = inl e
  among-kept i j (element id name attributes children) (inr h) = inr (all_among-kept i j children h)
  among-kept i j (text id cs) h = h

  pub all_among-kept : (i j : ℕ) (ns : Nodes) → IsAmong j (all_ids (nodes_after_remove i ns)) → IsAmong j (all_ids ns)
  all_among-kept i j no_nodes h = absurd h
  all_among-kept i j (node n ns) h = elim (cases_Bool (i == id_of n)) [
    | inl t ↦ among-right j (ids n) (all_ids ns) (all_among-kept i j ns (rw t at h))
    | inr f ↦ elim (among-split j (ids (tree_after_remove i n)) (all_ids (nodes_after_remove i ns)) (rw f at h)) [
      | inl k ↦ among-left j (ids n) (all_ids ns) (among-kept i j n k)
      | inr k ↦ among-right j (ids n) (all_ids ns) (all_among-kept i j ns k)
    ]
  ]

mutual
  pub find-removed : (i j : ℕ) (n : Node) → AreDistinct (ids n) → IsAmong j (ids (tree_after_remove i n)) → find j (tree_after_remove i n) ≡ option_map (λ x. tree_after_remove i x) (find j n)
  find-removed i j (element id name attributes children) d h = elim (cases_Bool (j == id)) [
    | inl t ↦ rw t refl
    | inr f ↦ rw f (find_in-removed i j children d.1 (among-rest j id (all_ids (nodes_after_remove i children)) f h))
  ]
  find-removed i j (text id cs) d h = elim (cases_Bool (j == id)) [
    | inl t ↦ rw t refl
    | inr f ↦ rw f refl
  ]

  pub find_in-removed : (i j : ℕ) (ns : Nodes) → AreDistinct (all_ids ns) → IsAmong j (all_ids (nodes_after_remove i ns)) → find_in j (nodes_after_remove i ns) ≡ option_map (λ x. tree_after_remove i x) (find_in j ns)
  find_in-removed i j no_nodes d h = absurd h
  find_in-removed i j (node n ns) d h = elim (cases_Bool (i == id_of n)) [
    | inl t ↦
        let k : IsAmong j (all_ids (nodes_after_remove i ns)) = rw t at h in
        let none : find j n ≡ None = absent-none j n (λ a. distinct-apart j (ids n) (all_ids ns) d a (all_among-kept i j ns k)) in
        rw (t, none) (find_in-removed i j ns (distinct-right (ids n) (all_ids ns) d) k)
    | inr f ↦ elim (among-split j (ids (tree_after_remove i n)) (all_ids (nodes_after_remove i ns)) (rw f at h)) [
      | inl k ↦
          let step : find j (tree_after_remove i n) ≡ option_map (λ x. tree_after_remove i x) (find j n) = find-removed i j n (distinct-left (ids n) (all_ids ns) d) k in
          elim (none-or-some (find j n)) [
            | inl none ↦ absurd (false≢true (sym (ap is_some none) ∙ among-find j n (among-kept i j n k)))
            | inr some ↦ rw (f, step, some.1) refl
          ]
      | inr k ↦
          let out : IsAmong j (ids n) → ⊥ = λ a. distinct-apart j (ids n) (all_ids ns) d a (all_among-kept i j ns k) in
          let none : find j n ≡ None = absent-none j n out in
          let none_left : find j (tree_after_remove i n) ≡ None = absent-none j (tree_after_remove i n) (λ a. out (among-kept i j n a)) in
          rw (f, none_left, none) (find_in-removed i j ns (distinct-right (ids n) (all_ids ns) d) k)
    ]
  ]

pub by_itself-removed : (i : ℕ) (o : Option Node) → option_map by_itself (option_map (λ x. tree_after_remove i x) o) ≡ option_map by_itself o
by_itself-removed i (Some (element id name attributes children)) = refl
by_itself-removed i (Some (text id cs)) = refl
by_itself-removed i None = refl

pub ids_of-removed : (i : ℕ) (ns : Nodes) → ids_of (nodes_after_remove i ns) ≡ ids_without i (ids_of ns)
ids_of-removed i no_nodes = refl
ids_of-removed i (node n ns) = elim (cases_Bool (i == id_of n)) [
  | inl t ↦ rw t (ids_of-removed i ns)
  | inr f ↦ rw f (λ j. id_of-removed i n j ∷ ids_of-removed i ns j)
]

pub children-removed : (i : ℕ) (x : Node) → ids_of (children_of (tree_after_remove i x)) ≡ ids_without i (ids_of (children_of x))
children-removed i (element id name attributes children) = ids_of-removed i children
children-removed i (text id cs) = refl

pub without-listed : (j i : ℕ) (xs : List ℕ) → IsAmong j (ids_without i xs) → IsAmong j xs
without-listed j i [] h = h
without-listed j i (x ∷ xs) h = elim (cases_Bool (i == x)) [
  | inl t ↦ inr (without-listed j i xs (rw t at h))
  | inr f ↦ elim (rw f at h) [
    | inl e ↦ inl e
    | inr k ↦ inr (without-listed j i xs k)
  ]
]

pub listed-without : (j i : ℕ) (xs : List ℕ) → (j ≡ i → ⊥) → IsAmong j xs → IsAmong j (ids_without i xs)
listed-without j i [] other h = h
listed-without j i (x ∷ xs) other (inl e) = rw (ne_eqb i x (λ k. other (e ∙ sym k))) (inl e)
listed-without j i (x ∷ xs) other (inr h) = elim (cases_Bool (i == x)) [
  | inl t ↦ rw t (listed-without j i xs other h)
  | inr f ↦ rw f (inr (listed-without j i xs other h))
]

pub other-top : (i : ℕ) (n : Node) (ns : Nodes) → (IsAmong i (all_ids (node n ns)) → ⊥) → (i == id_of n) ≡ false
other-top i n ns out = ne_eqb i (id_of n) (λ e. out (among-left i (ids n) (all_ids ns) (subst (λ (k : ℕ). IsAmong k (ids n)) (sym e) (among-top n))))

pub nodes_removed-with_child : (i index : ℕ) (new : Node) (ns : Nodes) → i ≡ id_of new → (IsAmong i (all_ids ns) → ⊥) → nodes_after_remove i (with_child index new ns) ≡ ns
nodes_removed-with_child i zero new ns e out = rw (eq-eqb i (id_of new) e) (nodes_removed-absent i ns out)
nodes_removed-with_child i (suc k) new no_nodes e out = rw (eq-eqb i (id_of new) e) refl
nodes_removed-with_child i (suc k) new (node n ns) e out =
    let first : tree_after_remove i n ≡ n = removed-absent i n (λ h. out (among-left i (ids n) (all_ids ns) h)) in
    let rest : nodes_after_remove i (with_child k new ns) ≡ ns = nodes_removed-with_child i k new ns e (λ h. out (among-right i (ids n) (all_ids ns) h)) in
    rw (other-top i n ns out) (λ j. node (first j) (rest j))

mutual
  pub removed-inserted : (i parent index : ℕ) (new n : Node) → i ≡ id_of new → (IsAmong i (ids n) → ⊥) → tree_after_remove i (tree_after_insert parent index new n) ≡ n
  removed-inserted i parent index new (element id name attributes children) e out = elim (cases_Bool (parent == id)) [
    | inl t ↦ rw t (ap (element id name attributes) (nodes_removed-with_child i index new children e (λ h. out (inr h))))
    | inr f ↦ rw f (ap (element id name attributes) (nodes_removed-inserted i parent index new children e (λ h. out (inr h))))
  ]
  removed-inserted i parent index new (text id cs) e out = refl

  pub nodes_removed-inserted : (i parent index : ℕ) (new : Node) (ns : Nodes) → i ≡ id_of new → (IsAmong i (all_ids ns) → ⊥) → nodes_after_remove i (nodes_after_insert parent index new ns) ≡ ns
  nodes_removed-inserted i parent index new no_nodes e out = refl
  nodes_removed-inserted i parent index new (node n ns) e out =
      let first : tree_after_remove i (tree_after_insert parent index new n) ≡ n = removed-inserted i parent index new n e (λ h. out (among-left i (ids n) (all_ids ns) h)) in
      let rest : nodes_after_remove i (nodes_after_insert parent index new ns) ≡ ns = nodes_removed-inserted i parent index new ns e (λ h. out (among-right i (ids n) (all_ids ns) h)) in
      let other : (i == id_of (tree_after_insert parent index new n)) ≡ false = ap (λ (k : ℕ). i == k) (id_of-inserted parent index new n) ∙ other-top i n ns out in
      rw other (λ j. node (first j) (rest j))

-- ---- the tree after a remove

pub find-left : (i j : ℕ) (root : Node) → AreDistinct (ids root) → IsSome (find j (tree_after_remove i root)) → find j (tree_after_remove i root) ≡ option_map (λ x. tree_after_remove i x) (find j root)
find-left i j root d h = find-removed i j root d (find-among j (tree_after_remove i root) h)

pub list-left : (i j : ℕ) (root : Node) → AreDistinct (ids root) → IsSome (find j (tree_after_remove i root)) → child_ids j (tree_after_remove i root) ≡ ids_without i (child_ids j root)
list-left i j root d h = elim (none-or-some (find j root)) [
  | inl none ↦ absurd (false≢true (sym (ap is_some (find-left i j root d h ∙ ap (option_map (λ x. tree_after_remove i x)) none)) ∙ h))
  | inr some ↦
      let at : find j (tree_after_remove i root) ≡ Some (tree_after_remove i some.0) = find-left i j root d h ∙ ap (option_map (λ x. tree_after_remove i x)) some.1 in
      child_ids-found j (tree_after_remove i root) (tree_after_remove i some.0) at ∙ (children-removed i some.0 ∙ sym (ap (ids_without i) (child_ids-found j root some.0 some.1)))
]

pub by_itself-left : (i j : ℕ) (root : Node) → AreDistinct (ids root) → IsSome (find j (tree_after_remove i root)) → option_map by_itself (find j (tree_after_remove i root)) ≡ option_map by_itself (find j root)
by_itself-left i j root d h = ap (option_map by_itself) (find-left i j root d h) ∙ by_itself-removed i (find j root)

-- the ids of a node that is not the root stand together
pub spliced-removed : (i : ℕ) (root n : Node) → AreDistinct (ids root) → find i root ≡ Some n → (i ≡ id_of root → ⊥) → Spliced (ids root) (ids n) (ids (tree_after_remove i root))
spliced-removed i root n d h other = ids-removed i root n d h (ne_eqb i (id_of root) other)

pub gone-none : (i j : ℕ) (root n : Node) → AreDistinct (ids root) → find i root ≡ Some n → (i ≡ id_of root → ⊥) → IsAmong j (ids n) → find j (tree_after_remove i root) ≡ None
gone-none i j root n d h other k = absent-none j (tree_after_remove i root) (λ a.
    part-apart (ids root) (ids n) (ids (tree_after_remove i root)) (spliced-removed i root n d h other) d j k a)

pub left-some : (i j : ℕ) (root n : Node) → AreDistinct (ids root) → find i root ≡ Some n → (i ≡ id_of root → ⊥) → IsSome (find j root) → (IsAmong j (ids n) → ⊥) → IsSome (find j (tree_after_remove i root))
left-some i j root n d h other live out =
    elim (spliced-among j (ids root) (ids n) (ids (tree_after_remove i root)) (spliced-removed i root n d h other) (find-among j root live)) [
      | inl k ↦ absurd (out k)
      | inr k ↦ among-find j (tree_after_remove i root) k
    ]

-- ---- parents after a remove

list-had : (i j p : ℕ) (root : Node) → AreDistinct (ids root) → IsAmong j (child_ids p (tree_after_remove i root)) → IsAmong j (child_ids p root)
list-had i j p root d h =
    let x = child-node (tree_after_remove i root) j p h in
    without-listed j i (child_ids p root) (subst (IsAmong j) (list-left i p root d (ap is_some x.1)) h)

list-keeps : (i j p : ℕ) (root n : Node) → AreDistinct (ids root) → find i root ≡ Some n → (i ≡ id_of root → ⊥) → IsSome (find j (tree_after_remove i root))
    → IsAmong j (child_ids p root) → IsAmong j (child_ids p (tree_after_remove i root))
list-keeps i j p root n d at other live h =
    let x = child-node root j p h in
    let out : IsAmong j (ids n) → ⊥ = λ a. false≢true (sym (ap is_some (gone-none i j root n d at other a)) ∙ live) in
    let above : IsAmong p (ids n) → ⊥ = λ a.
    out (find-part p n x.0 j (sym (find-within i p root n d at a) ∙ x.1) (child-below j x.0 x.2)) in
    let not_top : j ≡ i → ⊥ = λ e. out (subst (λ (k : ℕ). IsAmong k (ids n)) (sym (e ∙ find-id i root n at)) (among-top n)) in
    let left : IsSome (find p (tree_after_remove i root)) = left-some i p root n d at other (ap is_some x.1) above in
    subst (IsAmong j) (sym (list-left i p root d left)) (listed-without j i (child_ids p root) not_top h)

pub parent-left : (i j : ℕ) (root : Node) → AreDistinct (ids root) → IsSome (find j (tree_after_remove i root)) → parent_of j (tree_after_remove i root) ≡ parent_of j root
parent-left i j root d live = elim (cases_Bool (i == id_of root)) [
  | inl t ↦ ap (parent_of j) (ap (λ (k : ℕ). tree_after_remove k root) (eqb-true i (id_of root) t) ∙ removed-top root d)
  | inr f ↦ elim (none-or-some (find i root)) [
    | inl none ↦ ap (parent_of j) (removed-absent i root (unfound-absent i root none))
    | inr some ↦
        same-parent j (tree_after_remove i root) root (distinct-removed i root d) d (λ p h. list-had i j p root d h)
        (λ p h. list-keeps i j p root some.0 d some.1 (eqb-false i (id_of root) f) live h)
  ]
]

-- ---- counts after a remove

pub node_count-removed : (i : ℕ) (root n : Node) → AreDistinct (ids root) → find i root ≡ Some n → (i ≡ id_of root → ⊥) → node_count root ≡ node_count (tree_after_remove i root) + node_count n
node_count-removed i root n d h other = spliced-length (ids root) (ids n) (ids (tree_after_remove i root)) (spliced-removed i root n d h other)

mutual
  text_size-shrunk : (i : ℕ) (n x : Node) → AreDistinct (ids n) → find i n ≡ Some x → (i == id_of n) ≡ false → text_size (without_ids n) ≡ text_size (without_ids (tree_after_remove i n)) + text_size (without_ids x)
  text_size-shrunk i (element id name attributes children) x d h f = let below = text_sizes-shrunk i children x d.1 (rw f at h) in omega (arith, below)
  text_size-shrunk i (text id cs) x d h f = absurd (none-some x (rw f at h))

  text_sizes-shrunk : (i : ℕ) (ns : Nodes) (x : Node) → AreDistinct (all_ids ns) → find_in i ns ≡ Some x → text_sizes (all_without_ids ns) ≡ text_sizes (all_without_ids (nodes_after_remove i ns)) + text_size (without_ids x)
  text_sizes-shrunk i no_nodes x d h = absurd (none-some x h)
  text_sizes-shrunk i (node n ns) x d h = elim (cases_Bool (i == id_of n)) [
    | inl t ↦
        let top : find i n ≡ Some n = ap (λ k. find k n) (eqb-true i (id_of n) t) ∙ find-top n in
        let rest : nodes_after_remove i ns ≡ ns = nodes_removed-absent i ns (found-absent i n n ns d top) in
        let same : n ≡ x = same_Some n x (rw top at h) in
        rw (t, rest, ← same) (omega arith)
    | inr f ↦ rw f (elim (or-found (find i n) (find_in i ns) x h) [
      | inl k ↦
          let rest : nodes_after_remove i ns ≡ ns = nodes_removed-absent i ns (found-absent i n x ns d k) in
          let first = text_size-shrunk i n x (distinct-left (ids n) (all_ids ns) d) k f in
          rw rest (omega (arith, first))
      | inr k ↦
          let first : tree_after_remove i n ≡ n = removed-absent i n (unfound-absent i n k.0) in
          let rest = text_sizes-shrunk i ns x (distinct-right (ids n) (all_ids ns) d) k.1 in
          rw first (omega (arith, rest))
    ])
  ]

pub text_size-removed : (i : ℕ) (root n : Node) → AreDistinct (ids root) → find i root ≡ Some n → (i ≡ id_of root → ⊥)
    → text_size (without_ids root) ≡ text_size (without_ids (tree_after_remove i root)) + text_size (without_ids n)
text_size-removed i root n d h other = text_size-shrunk i root n d h (ne_eqb i (id_of root) other)

-- what no node of the tree is, none of what is left is
mutual
  pub has_node-removed : (e : Text → List Attribute → Bool) (c : Text → Bool) (i : ℕ) (n : Node) → has_node e c (without_ids n) ≡ false → has_node e c (without_ids (tree_after_remove i n)) ≡ false
  has_node-removed e c i (element id name attributes children) h =
      let parts = or-false (e name attributes) (have_node e c (all_without_ids children)) h in
      rw parts.0 (have_node-removed e c i children parts.1)
  has_node-removed e c i (text id cs) h = h

  have_node-removed : (e : Text → List Attribute → Bool) (c : Text → Bool) (i : ℕ) (ns : Nodes) → have_node e c (all_without_ids ns) ≡ false → have_node e c (all_without_ids (nodes_after_remove i ns)) ≡ false
  have_node-removed e c i no_nodes h = refl
  have_node-removed e c i (node n ns) h =
      let parts = or-false (has_node e c (without_ids n)) (have_node e c (all_without_ids ns)) h in
      elim (cases_Bool (i == id_of n)) [
        | inl t ↦ rw t (have_node-removed e c i ns parts.1)
        | inr f ↦ rw (f, has_node-removed e c i n parts.0) (have_node-removed e c i ns parts.1)
      ]

-- ---- the height after a remove

level-positive : (i l : ℕ) (n : Node) → level i n ≡ Some l → 1 ≤ l
level-positive i l (element id name attributes children) h = elim (level-element (i == id) (level_in i children) l h) [
  | inl e ↦ omega (arith, e.1)
  | inr e ↦ omega (arith, e.1.2)
]
level-positive i l (text id cs) h = let e = level-text (i == id) l h in omega (arith, e.1)

level_in-positive : (i l : ℕ) (ns : Nodes) → level_in i ns ≡ Some l → 1 ≤ l
level_in-positive i l no_nodes h = absurd (none-some l h)
level_in-positive i l (node n ns) h = elim (or-found (level i n) (level_in i ns) l h) [
  | inl k ↦ level-positive i l n k
  | inr k ↦ level_in-positive i l ns k.1
]

level-top-only : (i l : ℕ) (n : Node) → (i == id_of n) ≡ true → level i n ≡ Some l → l ≡ 1
level-top-only i l n t h = same_Some l 1 (sym h ∙ (ap (λ (k : ℕ). level k n) (eqb-true i (id_of n) t) ∙ level-top n))

mutual
  height-shrunk : (i l : ℕ) (n x : Node) → AreDistinct (ids n) → find i n ≡ Some x → (i == id_of n) ≡ false → level i n ≡ Some (suc l) → height n ≡ max (height (tree_after_remove i n)) (l + height x)
  height-shrunk i l (element id name attributes children) x d h f v = elim (level-element (i == id) (level_in i children) (suc l) v) [
    | inl e ↦ absurd (false≢true (sym f ∙ e.0))
    | inr e ↦
        let pos : 1 ≤ e.1.0 = level_in-positive i e.1.0 children e.1.1 in
        let up : e.1.0 ≡ suc (e.1.0 - 1) = omega (arith, pos) in
        let below : heights children ≡ max (heights (nodes_after_remove i children)) ((e.1.0 - 1) + height x) =
        heights-shrunk i (e.1.0 - 1) children x d.1 (rw f at h) (e.1.1 ∙ ap Some up) in
        omega (arith, below, up, e.1.2)
  ]
  height-shrunk i l (text id cs) x d h f v = absurd (none-some x (rw f at h))

  heights-shrunk : (i l : ℕ) (ns : Nodes) (x : Node) → AreDistinct (all_ids ns) → find_in i ns ≡ Some x → level_in i ns ≡ Some (suc l) → heights ns ≡ max (heights (nodes_after_remove i ns)) (l + height x)
  heights-shrunk i l no_nodes x d h v = absurd (none-some x h)
  heights-shrunk i l (node n ns) x d h v = elim (cases_Bool (i == id_of n)) [
    | inl t ↦
        let top : find i n ≡ Some n = ap (λ k. find k n) (eqb-true i (id_of n) t) ∙ find-top n in
        let first : level i n ≡ Some 1 = ap (λ (k : ℕ). level k n) (eqb-true i (id_of n) t) ∙ level-top n in
        let rest : nodes_after_remove i ns ≡ ns = nodes_removed-absent i ns (found-absent i n n ns d top) in
        let same : n ≡ x = same_Some n x (rw top at h) in
        let zero_is : 1 ≡ suc l = same_Some 1 (suc l) (rw first at v) in
        rw (t, rest, ← same) (omega (arith, zero_is))
    | inr f ↦ rw f (elim (or-found (find i n) (find_in i ns) x h) [
      | inl k ↦
          let rest : nodes_after_remove i ns ≡ ns = nodes_removed-absent i ns (found-absent i n x ns d k) in
          elim (or-found (level i n) (level_in i ns) (suc l) v) [
            | inl q ↦
                let first : height n ≡ max (height (tree_after_remove i n)) (l + height x) = height-shrunk i l n x (distinct-left (ids n) (all_ids ns) d) k f q in
                rw rest (omega (arith, first))
            | inr q ↦ absurd (false≢true (sym (ap is_some q.0) ∙ (level-found i n ∙ ap is_some k)))
          ]
      | inr k ↦
          let first : tree_after_remove i n ≡ n = removed-absent i n (unfound-absent i n k.0) in
          elim (or-found (level i n) (level_in i ns) (suc l) v) [
            | inl q ↦ absurd (false≢true (sym (ap is_some k.0) ∙ (sym (level-found i n) ∙ ap is_some q)))
            | inr q ↦
                let rest : heights ns ≡ max (heights (nodes_after_remove i ns)) (l + height x) = heights-shrunk i l ns x (distinct-right (ids n) (all_ids ns) d) k.1 q.1 in
                rw first (omega (arith, rest))
          ]
    ])
  ]

pub height-left : (i l : ℕ) (root n : Node) → AreDistinct (ids root) → find i root ≡ Some n → (i ≡ id_of root → ⊥) → level i root ≡ Some (suc l)
    → height root ≡ max (height (tree_after_remove i root)) (l + height n)
height-left i l root n d h other v = height-shrunk i l root n d h (ne_eqb i (id_of root) other) v

pub insert-undone : (parent index : ℕ) (new root : Node) → FitsBelow parent new root → tree_after_remove (id_of new) (tree_after_insert parent index new root) ≡ root
insert-undone parent index new root f = removed-inserted (id_of new) parent index new root refl (λ h. f.apart (id_of new) (among-top new) h)

pub remove-order : (i : ℕ) (root n : Node) → AreDistinct (ids root) → find i root ≡ Some n → (i ≡ id_of root → ⊥) → HasRun (ids root) (ids n) (ids (tree_after_remove i root))
remove-order i root n d h other = let s : Spliced (ids root) (ids n) (ids (tree_after_remove i root)) = spliced-removed i root n d h other in (s.front, (s.back, s.whole_is, s.rest_is))
