-- The tree in which the attributes of an element, or the code points of a text, are others.
use Rattle.std.proofs.Common.{Bool, IsSome, List, None, Option, Some, [], ap, arith, cond, eq-eqb, eqb-true, false, inl, inr, max, ne_eqb, option_and_then, option_map, refl, subst, suc, sym, unwrap_or, ℕ, ◌++◌, ◌+◌, ◌==◌, ◌∙◌, ◌∷◌, ◌≡◌}
use Rattle.std.proofs.lemmas.Bool.{cases_Bool, false≢true}
use Rattle.std.proofs.lemmas.Option.{none-some, same_Some}
use Rattle.page_laws.proofs.Find.{find-id, found-absent, named-some, unfound-absent}
use Rattle.page_laws.proofs.IsAmong.{among-left, among-right, distinct-left, distinct-right}
use Rattle.page_laws.proofs.Options.{if-found, none-or-some, or-false, or-found, or-map}
use Rattle.page_laws.proofs.ParentOf.{same-parent}
use Rattle.page_laws.specs.Limits.{own_text_size}
use Rattle.page_model.specs.Document.{AreDistinct, IsAmong, Node, Nodes, all_ids, all_without_ids, attributes_at, attributes_of, by_itself, child_ids, children_of, element, find, find_in, height, heights, id_of, ids, ids_of, name_at, name_of, no_nodes, node, parent_of, text, text_at, text_of, without_ids}
use Rattle.page_model.specs.Edits.{nodes_after_change, tree_after_change}
use Rattle.page_model.specs.Trees.{Attribute, Text, has_node, have_node, text_size, text_sizes}

pub id_of-changed : (i : ℕ) (a : List Attribute → List Attribute) (c : Text → Text) (n : Node) → id_of (tree_after_change i a c n) ≡ id_of n
id_of-changed i a c (element id name attributes children) = refl
id_of-changed i a c (text id cs) = refl

pub name_of-changed : (i : ℕ) (a : List Attribute → List Attribute) (c : Text → Text) (n : Node) → name_of (tree_after_change i a c n) ≡ name_of n
name_of-changed i a c (element id name attributes children) = refl
name_of-changed i a c (text id cs) = refl

mutual
  pub ids-changed : (i : ℕ) (a : List Attribute → List Attribute) (c : Text → Text) (n : Node) → ids (tree_after_change i a c n) ≡ ids n
  ids-changed i a c (element id name attributes children) = ap (λ (xs : List ℕ). id ∷ xs) (all_ids-changed i a c children)
  ids-changed i a c (text id cs) = refl

  pub all_ids-changed : (i : ℕ) (a : List Attribute → List Attribute) (c : Text → Text) (ns : Nodes) → all_ids (nodes_after_change i a c ns) ≡ all_ids ns
  all_ids-changed i a c no_nodes = refl
  all_ids-changed i a c (node n ns) = λ j. ids-changed i a c n j ++ all_ids-changed i a c ns j

mutual
  pub height-changed : (i : ℕ) (a : List Attribute → List Attribute) (c : Text → Text) (n : Node) → height (tree_after_change i a c n) ≡ height n
  height-changed i a c (element id name attributes children) = ap suc (heights-changed i a c children)
  height-changed i a c (text id cs) = refl

  pub heights-changed : (i : ℕ) (a : List Attribute → List Attribute) (c : Text → Text) (ns : Nodes) → heights (nodes_after_change i a c ns) ≡ heights ns
  heights-changed i a c no_nodes = refl
  heights-changed i a c (node n ns) = λ j. max (height-changed i a c n j) (heights-changed i a c ns j)

pub ids_of-changed : (i : ℕ) (a : List Attribute → List Attribute) (c : Text → Text) (ns : Nodes) → ids_of (nodes_after_change i a c ns) ≡ ids_of ns
ids_of-changed i a c no_nodes = refl
ids_of-changed i a c (node n ns) = λ j. id_of-changed i a c n j ∷ ids_of-changed i a c ns j

pub children-changed : (i : ℕ) (a : List Attribute → List Attribute) (c : Text → Text) (n : Node) → ids_of (children_of (tree_after_change i a c n)) ≡ ids_of (children_of n)
children-changed i a c (element id name attributes children) = ids_of-changed i a c children
children-changed i a c (text id cs) = refl

-- ---- what is found

mutual
  pub find-changed : (i j : ℕ) (a : List Attribute → List Attribute) (c : Text → Text) (n : Node) → find j (tree_after_change i a c n) ≡ option_map (λ x. tree_after_change i a c x) (find j n)
  find-changed i j a c (element id name attributes children) = elim (cases_Bool (j == id)) [
    | inl t ↦ rw t refl
    | inr f ↦ rw f (find_in-changed i j a c children)
  ]
  find-changed i j a c (text id cs) = elim (cases_Bool (j == id)) [
    | inl t ↦ rw t refl
    | inr f ↦ rw f refl
  ]

  pub find_in-changed : (i j : ℕ) (a : List Attribute → List Attribute) (c : Text → Text) (ns : Nodes) → find_in j (nodes_after_change i a c ns) ≡ option_map (λ x. tree_after_change i a c x) (find_in j ns)
  find_in-changed i j a c no_nodes = refl
  find_in-changed i j a c (node n ns) =
      rw (find-changed i j a c n, find_in-changed i j a c ns) (or-map (λ x. tree_after_change i a c x) (find j n) (find_in j ns))

pub list-changed : (i j : ℕ) (a : List Attribute → List Attribute) (c : Text → Text) (root : Node) → child_ids j (tree_after_change i a c root) ≡ child_ids j root
list-changed i j a c root = elim (none-or-some (find j root)) [
  | inl none ↦
      let at : find j (tree_after_change i a c root) ≡ None = find-changed i j a c root ∙ ap (option_map (λ x. tree_after_change i a c x)) none in
      rw (at, none) refl
  | inr some ↦
      let at : find j (tree_after_change i a c root) ≡ Some (tree_after_change i a c some.0) = find-changed i j a c root ∙ ap (option_map (λ x. tree_after_change i a c x)) some.1 in
      rw (at, some.1) (children-changed i a c some.0)
]

pub parent-changed : (i j : ℕ) (a : List Attribute → List Attribute) (c : Text → Text) (root : Node) → AreDistinct (ids root) → parent_of j (tree_after_change i a c root) ≡ parent_of j root
parent-changed i j a c root d =
    same-parent j (tree_after_change i a c root) root (subst AreDistinct (sym (ids-changed i a c root)) d) d
    (λ p h. subst (IsAmong j) (list-changed i p a c root) h) (λ p h. subst (IsAmong j) (sym (list-changed i p a c root)) h)

-- ---- nodes by themselves

pub by_itself-other : (i : ℕ) (a : List Attribute → List Attribute) (c : Text → Text) (n : Node) → (i ≡ id_of n → ⊥) → by_itself (tree_after_change i a c n) ≡ by_itself n
by_itself-other i a c (element id name attributes children) other = rw (ne_eqb i id other) refl
by_itself-other i a c (text id cs) other = rw (ne_eqb i id other) refl

pub by_itself-unchanged : (i j : ℕ) (a : List Attribute → List Attribute) (c : Text → Text) (root : Node) → (j ≡ i → ⊥)
    → option_map by_itself (find j (tree_after_change i a c root)) ≡ option_map by_itself (find j root)
by_itself-unchanged i j a c root other = elim (none-or-some (find j root)) [
  | inl none ↦ ap (option_map by_itself) (find-changed i j a c root ∙ (ap (option_map (λ x. tree_after_change i a c x)) none ∙ sym none))
  | inr some ↦
      ap (option_map by_itself) (find-changed i j a c root ∙ ap (option_map (λ x. tree_after_change i a c x)) some.1)
      ∙ (ap Some (by_itself-other i a c some.0 (λ e. other (find-id j root some.0 some.1 ∙ sym e))) ∙ sym (ap (option_map by_itself) some.1))
]

attributes_of-changed : (i : ℕ) (a : List Attribute → List Attribute) (c : Text → Text) (n : Node) → i ≡ id_of n → IsSome (name_of n) → attributes_of (tree_after_change i a c n) ≡ a (attributes_of n)
attributes_of-changed i a c (element id name attributes children) e h = rw (eq-eqb i id e) refl
attributes_of-changed i a c (text id cs) e h = absurd (false≢true h)

text_of-changed : (i : ℕ) (a : List Attribute → List Attribute) (c : Text → Text) (n : Node) → i ≡ id_of n → text_of (tree_after_change i a c n) ≡ option_map c (text_of n)
text_of-changed i a c (element id name attributes children) e = refl
text_of-changed i a c (text id cs) e = rw (eq-eqb i id e) refl

pub attributes_at-found : (i : ℕ) (root x : Node) → find i root ≡ Some x → attributes_at i root ≡ attributes_of x
attributes_at-found i root x f = ap (λ (o : Option Node). unwrap_or (option_map attributes_of o) []) f

pub attributes-changed : (i : ℕ) (a : List Attribute → List Attribute) (c : Text → Text) (root : Node) → IsSome (name_at i root) → attributes_at i (tree_after_change i a c root) ≡ a (attributes_at i root)
attributes-changed i a c root h =
    let p = named-some (find i root) h in
    let at : find i (tree_after_change i a c root) ≡ Some (tree_after_change i a c p.0) = find-changed i i a c root ∙ ap (option_map (λ x. tree_after_change i a c x)) p.1.0 in
    attributes_at-found i (tree_after_change i a c root) (tree_after_change i a c p.0) at
    ∙ (attributes_of-changed i a c p.0 (find-id i root p.0 p.1.0) p.1.1 ∙ sym (ap a (attributes_at-found i root p.0 p.1.0)))

pub name-changed : (i j : ℕ) (a : List Attribute → List Attribute) (c : Text → Text) (root : Node) → name_at j (tree_after_change i a c root) ≡ name_at j root
name-changed i j a c root = elim (none-or-some (find j root)) [
  | inl none ↦ ap (option_and_then name_of) (find-changed i j a c root ∙ (ap (option_map (λ x. tree_after_change i a c x)) none ∙ sym none))
  | inr some ↦
      let at : find j (tree_after_change i a c root) ≡ Some (tree_after_change i a c some.0) = find-changed i j a c root ∙ ap (option_map (λ x. tree_after_change i a c x)) some.1 in
      rw (at, some.1) (name_of-changed i a c some.0)
]

pub text-changed : (i : ℕ) (a : List Attribute → List Attribute) (c : Text → Text) (root : Node) → text_at i (tree_after_change i a c root) ≡ option_map c (text_at i root)
text-changed i a c root = elim (none-or-some (find i root)) [
  | inl none ↦
      let at : find i (tree_after_change i a c root) ≡ None = find-changed i i a c root ∙ ap (option_map (λ x. tree_after_change i a c x)) none in
      rw (at, none) refl
  | inr some ↦
      let at : find i (tree_after_change i a c root) ≡ Some (tree_after_change i a c some.0) = find-changed i i a c root ∙ ap (option_map (λ x. tree_after_change i a c x)) some.1 in
      rw (at, some.1) (text_of-changed i a c some.0 (find-id i root some.0 some.1))
]

-- ---- where the node is not there, nothing changes

mutual
  pub changed-absent : (i : ℕ) (a : List Attribute → List Attribute) (c : Text → Text) (n : Node) → (IsAmong i (ids n) → ⊥) → tree_after_change i a c n ≡ n
  changed-absent i a c (element id name attributes children) out =
      rw (ne_eqb i id (λ e. out (inl e))) (ap (element id name attributes) (nodes_changed-absent i a c children (λ h. out (inr h))))
  changed-absent i a c (text id cs) out = rw (ne_eqb i id (λ e. out (inl e))) refl

  pub nodes_changed-absent : (i : ℕ) (a : List Attribute → List Attribute) (c : Text → Text) (ns : Nodes) → (IsAmong i (all_ids ns) → ⊥) → nodes_after_change i a c ns ≡ ns
  nodes_changed-absent i a c no_nodes out = refl
  nodes_changed-absent i a c (node n ns) out = λ j. node
      (changed-absent i a c n (λ h. out (among-left i (ids n) (all_ids ns) h)) j)
      (nodes_changed-absent i a c ns (λ h. out (among-right i (ids n) (all_ids ns) h)) j)

-- ---- code points

mutual
  pub text_size-changed : (i : ℕ) (a : List Attribute → List Attribute) (c : Text → Text) (n x : Node) → AreDistinct (ids n) → find i n ≡ Some x
      → text_size (without_ids (tree_after_change i a c n)) + own_text_size x ≡ text_size (without_ids n) + own_text_size (tree_after_change i a c x)
  text_size-changed i a c (element id name attributes children) x d h = elim (if-found (i == id) (element id name attributes children) x (find_in i children) h) [
    | inl k ↦
        let same : element id name attributes children ≡ x = same_Some (element id name attributes children) x k.1 in
        let below : nodes_after_change i a c children ≡ children = nodes_changed-absent i a c children (λ m. d.0 (subst (λ (q : ℕ). IsAmong q (all_ids children)) (eqb-true i id k.0) m)) in
        rw (← same, k.0, below) (omega arith)
    | inr k ↦
        let below = text_sizes-changed i a c children x d.1 k.1 in
        rw k.0 (omega (arith, below))
  ]
  text_size-changed i a c (text id cs) x d h = elim (if-found (i == id) (text id cs) x None h) [
    | inl k ↦ let same : text id cs ≡ x = same_Some (text id cs) x k.1 in rw (← same, k.0) (omega arith)
    | inr k ↦ absurd (none-some x k.1)
  ]

  pub text_sizes-changed : (i : ℕ) (a : List Attribute → List Attribute) (c : Text → Text) (ns : Nodes) (x : Node) → AreDistinct (all_ids ns) → find_in i ns ≡ Some x
      → text_sizes (all_without_ids (nodes_after_change i a c ns)) + own_text_size x ≡ text_sizes (all_without_ids ns) + own_text_size (tree_after_change i a c x)
  text_sizes-changed i a c no_nodes x d h = absurd (none-some x h)
  text_sizes-changed i a c (node n ns) x d h = elim (or-found (find i n) (find_in i ns) x h) [
    | inl k ↦
        let rest : nodes_after_change i a c ns ≡ ns = nodes_changed-absent i a c ns (found-absent i n x ns d k) in
        let first = text_size-changed i a c n x (distinct-left (ids n) (all_ids ns) d) k in
        rw rest (omega (arith, first))
    | inr k ↦
        let first : tree_after_change i a c n ≡ n = changed-absent i a c n (unfound-absent i n k.0) in
        let rest = text_sizes-changed i a c ns x (distinct-right (ids n) (all_ids ns) d) k.1 in
        rw first (omega (arith, rest))
  ]

-- what no node of the tree is, none of the tree after is, where the changed node is not
mutual
  pub has_node-changed : (e : Text → List Attribute → Bool) (t : Text → Bool) (i : ℕ) (a : List Attribute → List Attribute) (c : Text → Text) (n : Node)
      → ((name : Text) (attributes : List Attribute) → e name attributes ≡ false → e name (a attributes) ≡ false) → ((cs : Text) → t cs ≡ false → t (c cs) ≡ false)
      → has_node e t (without_ids n) ≡ false → has_node e t (without_ids (tree_after_change i a c n)) ≡ false
  has_node-changed e t i a c (element id name attributes children) f g h =
      let parts = or-false (e name attributes) (have_node e t (all_without_ids children)) h in
      let own : e name (cond (i == id) (a attributes) attributes) ≡ false = elim (cases_Bool (i == id)) [
        | inl k ↦ rw k (f name attributes parts.0)
        | inr k ↦ rw k parts.0
      ] in
      rw own (have_node-changed e t i a c children f g parts.1)
  has_node-changed e t i a c (text id cs) f g h = elim (cases_Bool (i == id)) [
    | inl k ↦ rw k (g cs h)
    | inr k ↦ rw k h
  ]

  pub have_node-changed : (e : Text → List Attribute → Bool) (t : Text → Bool) (i : ℕ) (a : List Attribute → List Attribute) (c : Text → Text) (ns : Nodes)
      → ((name : Text) (attributes : List Attribute) → e name attributes ≡ false → e name (a attributes) ≡ false) → ((cs : Text) → t cs ≡ false → t (c cs) ≡ false)
      → have_node e t (all_without_ids ns) ≡ false → have_node e t (all_without_ids (nodes_after_change i a c ns)) ≡ false
  have_node-changed e t i a c no_nodes f g h = refl
  have_node-changed e t i a c (node n ns) f g h =
      let parts = or-false (has_node e t (without_ids n)) (have_node e t (all_without_ids ns)) h in
      rw (has_node-changed e t i a c n f g parts.0) (have_node-changed e t i a c ns f g parts.1)
