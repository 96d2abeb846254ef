-- The tree in which an element has one more child.
use Rattle.std.proofs.Common.{Bool, IsSome, List, None, Option, Some, [], ap, arith, eq-eqb, eqb-true, false, inl, inr, is_some, max, ne_eqb, option_and_then, option_map, refl, subst, suc, sym, unwrap_or, zero, ℕ, ◌+◌, ◌==◌, ◌∙◌, ◌∷◌, ◌≡◌, ◌⊎◌}
use Rattle.std.proofs.lemmas.Bool.{cases_Bool, eqb-false, false≢true}
use Rattle.std.proofs.lemmas.Option.{none-some, same_Some}
use Rattle.page_laws.proofs.Find.{absent-none, all_absent-none, among-top, child-below, find-id, find-part, found-absent, named-some, some-among, unfound-absent}
use Rattle.page_laws.proofs.IsAmong.{among-is_among, among-left, among-right, distinct-apart, distinct-left, distinct-right, is_among-true}
use Rattle.page_laws.proofs.Levels.{level-among, level-element, level-found, unlevelled-absent}
use Rattle.page_laws.proofs.Options.{if-found, none-or-some, or-false, or-false-right, or-found, or-map, or-none}
use Rattle.page_laws.proofs.ParentOf.{child-node, child_ids-found, listed-parent, same-parent}
use Rattle.page_laws.proofs.Spliced.{Spliced, spliced-cons, spliced-distinct, spliced-here, spliced-left, spliced-length, spliced-right}
use Rattle.page_laws.specs.ChildLists.{ids_with}
use Rattle.page_laws.specs.Ids.{AreApart, FitsBelow, HasRun}
use Rattle.page_model.specs.Document.{AreDistinct, IsAmong, Node, Nodes, all_ids, all_without_ids, by_itself, child_ids, children_of, element, find, find_in, height, heights, id_of, ids, ids_of, is_among, name_at, name_of, no_nodes, node, node_count, or_else, parent_of, text, without_ids}
use Rattle.page_model.specs.Edits.{level, level_in, nodes_after_insert, tree_after_insert, with_child}
use Rattle.page_model.specs.Trees.{Attribute, Text, has_node, have_node, text_size, text_sizes}

pub id_of-inserted : (parent index : ℕ) (new n : Node) → id_of (tree_after_insert parent index new n) ≡ id_of n
id_of-inserted parent index new (element id name attributes children) = refl
id_of-inserted parent index new (text id cs) = refl

pub name_of-inserted : (parent index : ℕ) (new n : Node) → name_of (tree_after_insert parent index new n) ≡ name_of n
name_of-inserted parent index new (element id name attributes children) = refl
name_of-inserted parent index new (text id cs) = refl

pub ids_of-inserted : (parent index : ℕ) (new : Node) (ns : Nodes) → ids_of (nodes_after_insert parent index new ns) ≡ ids_of ns
ids_of-inserted parent index new no_nodes = refl
ids_of-inserted parent index new (node n ns) = λ j. id_of-inserted parent index new n j ∷ ids_of-inserted parent index new ns j

mutual
  pub inserted-absent : (parent index : ℕ) (new n : Node) → (IsAmong parent (ids n) → ⊥) → tree_after_insert parent index new n ≡ n
  inserted-absent parent index new (element id name attributes children) out = elim (cases_Bool (parent == id)) [
    | inl t ↦ absurd (out (inl (eqb-true parent id t)))
    | inr f ↦ rw f (ap (element id name attributes) (nodes_inserted-absent parent index new children (λ h. out (inr h))))
  ]
  inserted-absent parent index new (text id cs) out = refl

  pub nodes_inserted-absent : (parent index : ℕ) (new : Node) (ns : Nodes) → (IsAmong parent (all_ids ns) → ⊥) → nodes_after_insert parent index new ns ≡ ns
  nodes_inserted-absent parent index new no_nodes out = refl
  nodes_inserted-absent parent index new (node n ns) out =
      let first : tree_after_insert parent index new n ≡ n = inserted-absent parent index new n (λ h. out (among-left parent (ids n) (all_ids ns) h)) in
      let rest : nodes_after_insert parent index new ns ≡ ns = nodes_inserted-absent parent index new ns (λ h. out (among-right parent (ids n) (all_ids ns) h)) in
      λ j. node (first j) (rest j)

pub ids-with_child : (k : ℕ) (new : Node) (ns : Nodes) → Spliced (all_ids (with_child k new ns)) (ids new) (all_ids ns)
ids-with_child zero new ns = spliced-here (ids new) (all_ids ns)
ids-with_child (suc k) new no_nodes = spliced-here (ids new) []
ids-with_child (suc k) new (node n ns) = spliced-left (ids n) (all_ids (with_child k new ns)) (ids new) (all_ids ns) (ids-with_child k new ns)

mutual
  pub ids-inserted : (parent index : ℕ) (new n p : Node) → AreDistinct (ids n) → find parent n ≡ Some p → IsSome (name_of p) → Spliced (ids (tree_after_insert parent index new n)) (ids new) (ids n)
  ids-inserted parent index new (element id name attributes children) p d h e = elim (if-found (parent == id) (element id name attributes children) p (find_in parent children) h) [
    | inl k ↦ rw k.0 (spliced-cons id (all_ids (with_child index new children)) (ids new) (all_ids children) (ids-with_child index new children))
    | inr k ↦ rw k.0 (spliced-cons id (all_ids (nodes_after_insert parent index new children)) (ids new) (all_ids children) (ids-nodes_inserted parent index new children p d.1 k.1 e))
  ]
  ids-inserted parent index new (text id cs) p d h e = elim (if-found (parent == id) (text id cs) p None h) [
    | inl k ↦ absurd (false≢true (ap (λ n. is_some (name_of n)) (same_Some (text id cs) p k.1) ∙ e))
    | inr k ↦ absurd (none-some p k.1)
  ]

  pub ids-nodes_inserted : (parent index : ℕ) (new : Node) (ns : Nodes) (p : Node) → AreDistinct (all_ids ns) → find_in parent ns ≡ Some p → IsSome (name_of p) → Spliced (all_ids (nodes_after_insert parent index new ns)) (ids new) (all_ids ns)
  ids-nodes_inserted parent index new no_nodes p d h e = absurd (none-some p h)
  ids-nodes_inserted parent index new (node n ns) p d h e = elim (or-found (find parent n) (find_in parent ns) p h) [
    | inl k ↦
        let rest : nodes_after_insert parent index new ns ≡ ns = nodes_inserted-absent parent index new ns (found-absent parent n p ns d k) in
        rw rest (spliced-right (all_ids ns) (ids (tree_after_insert parent index new n)) (ids new) (ids n) (ids-inserted parent index new n p (distinct-left (ids n) (all_ids ns) d) k e))
    | inr k ↦
        let first : tree_after_insert parent index new n ≡ n = inserted-absent parent index new n (unfound-absent parent n k.0) in
        rw first (spliced-left (ids n) (all_ids (nodes_after_insert parent index new ns)) (ids new) (all_ids ns) (ids-nodes_inserted parent index new ns p (distinct-right (ids n) (all_ids ns) d) k.1 e))
  ]

-- it changes nothing, or the parent is an element
mutual
  pub inserted-named : (parent index : ℕ) (new n : Node) → AreDistinct (ids n) → (tree_after_insert parent index new n ≡ n) ⊎ IsSome (name_at parent n)
  inserted-named parent index new (element id name attributes children) d = elim (cases_Bool (parent == id)) [
    | inl t ↦ inr (rw t refl)
    | inr f ↦ rw f (elim (nodes_inserted-named parent index new children d.1) [
      | inl e ↦ inl (ap (element id name attributes) e)
      | inr h ↦ inr h
    ])
  ]
  inserted-named parent index new (text id cs) d = inl refl

  pub nodes_inserted-named : (parent index : ℕ) (new : Node) (ns : Nodes) → AreDistinct (all_ids ns) → (nodes_after_insert parent index new ns ≡ ns) ⊎ IsSome (option_and_then name_of (find_in parent ns))
  nodes_inserted-named parent index new no_nodes d = inl refl
  nodes_inserted-named parent index new (node n ns) d = elim (none-or-some (find parent n)) [
    | inl none ↦
        let first : tree_after_insert parent index new n ≡ n = inserted-absent parent index new n (unfound-absent parent n none) in
        rw none (elim (nodes_inserted-named parent index new ns (distinct-right (ids n) (all_ids ns) d)) [
          | inl e ↦ inl (λ j. node (first j) (e j))
          | inr h ↦ inr h
        ])
    | inr some ↦
        let rest : nodes_after_insert parent index new ns ≡ ns = nodes_inserted-absent parent index new ns (found-absent parent n some.0 ns d some.1) in
        elim (inserted-named parent index new n (distinct-left (ids n) (all_ids ns) d)) [
          | inl e ↦ inl (λ j. node (e j) (rest j))
          | inr h ↦ inr (rw some.1 (rw some.1 at h))
        ]
  ]

pub find_in-with_child : (j index : ℕ) (new : Node) (ns : Nodes) → find j new ≡ None → find_in j (with_child index new ns) ≡ find_in j ns
find_in-with_child j zero new ns none = rw none refl
find_in-with_child j (suc k) new no_nodes none = rw none refl
find_in-with_child j (suc k) new (node n ns) none = ap (λ (o : Option Node). or_else (find j n) o) (find_in-with_child j k new ns none)

mutual
  pub find-inserted : (j parent index : ℕ) (new n : Node) → AreDistinct (ids n) → find j new ≡ None → find j (tree_after_insert parent index new n) ≡ option_map (λ x. tree_after_insert parent index new x) (find j n)
  find-inserted j parent index new (element id name attributes children) d none = elim (cases_Bool (j == id)) [
    | inl t ↦ rw t refl
    | inr f ↦ rw f (elim (cases_Bool (parent == id)) [
      | inl t ↦
          let same : nodes_after_insert parent index new children ≡ children = nodes_inserted-absent parent index new children (λ h. d.0 (subst (λ (x : ℕ). IsAmong x (all_ids children)) (eqb-true parent id t) h)) in
          rw t (find_in-with_child j index new children none ∙ (sym (ap (find_in j) same) ∙ find_in-inserted j parent index new children d.1 none))
      | inr g ↦ rw g (find_in-inserted j parent index new children d.1 none)
    ])
  ]
  find-inserted j parent index new (text id cs) d none = elim (cases_Bool (j == id)) [
    | inl t ↦ rw t refl
    | inr f ↦ rw f refl
  ]

  pub find_in-inserted : (j parent index : ℕ) (new : Node) (ns : Nodes) → AreDistinct (all_ids ns) → find j new ≡ None → find_in j (nodes_after_insert parent index new ns) ≡ option_map (λ x. tree_after_insert parent index new x) (find_in j ns)
  find_in-inserted j parent index new no_nodes d none = refl
  find_in-inserted j parent index new (node n ns) d none =
      rw (find-inserted j parent index new n (distinct-left (ids n) (all_ids ns) d) none, find_in-inserted j parent index new ns (distinct-right (ids n) (all_ids ns) d) none)
      (or-map (λ x. tree_after_insert parent index new x) (find j n) (find_in j ns))

pub by_itself-inserted : (parent index : ℕ) (new : Node) (o : Option Node) → option_map by_itself (option_map (λ x. tree_after_insert parent index new x) o) ≡ option_map by_itself o
by_itself-inserted parent index new (Some (element id name attributes children)) = refl
by_itself-inserted parent index new (Some (text id cs)) = refl
by_itself-inserted parent index new None = refl

pub ids_of-with_child : (index : ℕ) (new : Node) (ns : Nodes) → ids_of (with_child index new ns) ≡ ids_with index (id_of new) (ids_of ns)
ids_of-with_child zero new ns = refl
ids_of-with_child (suc k) new no_nodes = refl
ids_of-with_child (suc k) new (node n ns) = ap (λ (xs : List ℕ). id_of n ∷ xs) (ids_of-with_child k new ns)

pub children-parent : (parent index : ℕ) (new x : Node) → parent ≡ id_of x → IsSome (name_of x) → ids_of (children_of (tree_after_insert parent index new x)) ≡ ids_with index (id_of new) (ids_of (children_of x))
children-parent parent index new (element id name attributes children) e h = rw (eq-eqb parent id e) (ids_of-with_child index new children)
children-parent parent index new (text id cs) e h = absurd (false≢true h)

pub children-other : (parent index : ℕ) (new x : Node) → (parent ≡ id_of x → ⊥) → ids_of (children_of (tree_after_insert parent index new x)) ≡ ids_of (children_of x)
children-other parent index new (element id name attributes children) e = rw (ne_eqb parent id e) (ids_of-inserted parent index new children)
children-other parent index new (text id cs) e = refl

pub find_in-new : (i index : ℕ) (new : Node) (ns : Nodes) → (IsAmong i (all_ids ns) → ⊥) → find_in i (with_child index new ns) ≡ find i new
find_in-new i zero new ns out = rw (all_absent-none i ns out) (or-none (find i new))
find_in-new i (suc k) new no_nodes out = or-none (find i new)
find_in-new i (suc k) new (node n ns) out =
    rw (absent-none i n (λ h. out (among-left i (ids n) (all_ids ns) h))) (find_in-new i k new ns (λ h. out (among-right i (ids n) (all_ids ns) h)))

mutual
  pub find-new : (i parent index : ℕ) (new n p : Node) → AreDistinct (ids n) → (IsAmong i (ids n) → ⊥) → find parent n ≡ Some p → IsSome (name_of p) → find i (tree_after_insert parent index new n) ≡ find i new
  find-new i parent index new (element id name attributes children) p d out h e =
      let f : (i == id) ≡ false = ne_eqb i id (λ k. out (inl k)) in
      elim (if-found (parent == id) (element id name attributes children) p (find_in parent children) h) [
        | inl k ↦ rw (f, k.0) (find_in-new i index new children (λ a. out (inr a)))
        | inr k ↦ rw (f, k.0) (all_find-new i parent index new children p d.1 (λ a. out (inr a)) k.1 e)
      ]
  find-new i parent index new (text id cs) p d out h e = elim (if-found (parent == id) (text id cs) p None h) [
    | inl k ↦ absurd (false≢true (ap (λ n. is_some (name_of n)) (same_Some (text id cs) p k.1) ∙ e))
    | inr k ↦ absurd (none-some p k.1)
  ]

  pub all_find-new : (i parent index : ℕ) (new : Node) (ns : Nodes) (p : Node) → AreDistinct (all_ids ns) → (IsAmong i (all_ids ns) → ⊥) → find_in parent ns ≡ Some p → IsSome (name_of p) → find_in i (nodes_after_insert parent index new ns) ≡ find i new
  all_find-new i parent index new no_nodes p d out h e = absurd (none-some p h)
  all_find-new i parent index new (node n ns) p d out h e = elim (or-found (find parent n) (find_in parent ns) p h) [
    | inl k ↦
        let rest : nodes_after_insert parent index new ns ≡ ns = nodes_inserted-absent parent index new ns (found-absent parent n p ns d k) in
        let none : find_in i ns ≡ None = all_absent-none i ns (λ a. out (among-right i (ids n) (all_ids ns) a)) in
        rw (rest, none) (or-none (find i (tree_after_insert parent index new n)) ∙ find-new i parent index new n p (distinct-left (ids n) (all_ids ns) d) (λ a. out (among-left i (ids n) (all_ids ns) a)) k e)
    | inr k ↦
        let first : tree_after_insert parent index new n ≡ n = inserted-absent parent index new n (unfound-absent parent n k.0) in
        let none : find i n ≡ None = absent-none i n (λ a. out (among-left i (ids n) (all_ids ns) a)) in
        rw (first, none) (all_find-new i parent index new ns p (distinct-right (ids n) (all_ids ns) d) (λ a. out (among-right i (ids n) (all_ids ns) a)) k.1 e)
  ]

pub new-listed : (index x : ℕ) (xs : List ℕ) → IsAmong x (ids_with index x xs)
new-listed zero x xs = inl refl
new-listed (suc k) x [] = inl refl
new-listed (suc k) x (y ∷ ys) = inr (new-listed k x ys)

pub old-listed : (j index x : ℕ) (xs : List ℕ) → IsAmong j xs → IsAmong j (ids_with index x xs)
old-listed j zero x xs h = inr h
old-listed j (suc k) x [] h = absurd h
old-listed j (suc k) x (y ∷ ys) (inl e) = inl e
old-listed j (suc k) x (y ∷ ys) (inr h) = inr (old-listed j k x ys h)

pub listed-old : (j index x : ℕ) (xs : List ℕ) → IsAmong j (ids_with index x xs) → (j ≡ x) ⊎ IsAmong j xs
listed-old j zero x xs h = h
listed-old j (suc k) x [] h = h
listed-old j (suc k) x (y ∷ ys) (inl e) = inr (inl e)
listed-old j (suc k) x (y ∷ ys) (inr h) = elim (listed-old j k x ys h) [
  | inl e ↦ inl e
  | inr m ↦ inr (inr m)
]

pub heights-with_child : (k : ℕ) (new : Node) (ns : Nodes) → heights (with_child k new ns) ≡ max (height new) (heights ns)
heights-with_child zero new ns = refl
heights-with_child (suc k) new no_nodes = refl
heights-with_child (suc k) new (node n ns) =
    let rest : heights (with_child k new ns) ≡ max (height new) (heights ns) = heights-with_child k new ns in
    ap (λ m. max (height n) m) rest ∙ omega arith

mutual
  pub height-grown : (parent index : ℕ) (new n : Node) (l : ℕ) → AreDistinct (ids n) → level parent n ≡ Some l → IsSome (name_at parent n) → height (tree_after_insert parent index new n) ≡ max (height n) (l + height new)
  height-grown parent index new (element id name attributes children) l d h e = elim (level-element (parent == id) (level_in parent children) l h) [
    | inl k ↦
        let one : heights (with_child index new children) ≡ max (height new) (heights children) = heights-with_child index new children in
        rw k.0 (omega (arith, one, k.1))
    | inr k ↦
        let below : heights (nodes_after_insert parent index new children) ≡ max (heights children) (k.1.0 + height new) = heights-grown parent index new children k.1.0 d.1 k.1.1 (rw k.0 at e) in
        rw k.0 (omega (arith, below, k.1.2))
  ]
  height-grown parent index new (text id cs) l d h e = elim (cases_Bool (parent == id)) [
    | inl t ↦ absurd (false≢true (rw t at e))
    | inr f ↦ absurd (false≢true (rw f at e))
  ]

  pub heights-grown : (parent index : ℕ) (new : Node) (ns : Nodes) (l : ℕ) → AreDistinct (all_ids ns) → level_in parent ns ≡ Some l → IsSome (option_and_then name_of (find_in parent ns)) → heights (nodes_after_insert parent index new ns) ≡ max (heights ns) (l + height new)
  heights-grown parent index new no_nodes l d h e = absurd (none-some l h)
  heights-grown parent index new (node n ns) l d h e = elim (or-found (level parent n) (level_in parent ns) l h) [
    | inl k ↦
        let rest : nodes_after_insert parent index new ns ≡ ns = nodes_inserted-absent parent index new ns (λ a. distinct-apart parent (ids n) (all_ids ns) d (level-among parent l n k) a) in
        elim (none-or-some (find parent n)) [
          | inl none ↦ absurd (false≢true (sym (ap is_some none) ∙ (sym (level-found parent n) ∙ ap is_some k)))
          | inr some ↦
              let named : IsSome (name_at parent n) = rw some.1 (rw some.1 at e) in
              let first : height (tree_after_insert parent index new n) ≡ max (height n) (l + height new) = height-grown parent index new n l (distinct-left (ids n) (all_ids ns) d) k named in
              rw rest (omega (arith, first))
        ]
    | inr k ↦
        let first : tree_after_insert parent index new n ≡ n = inserted-absent parent index new n (unlevelled-absent parent n k.0) in
        elim (none-or-some (find parent n)) [
          | inl none ↦
              let rest : heights (nodes_after_insert parent index new ns) ≡ max (heights ns) (l + height new) = heights-grown parent index new ns l (distinct-right (ids n) (all_ids ns) d) k.1 (rw none at e) in
              rw first (omega (arith, rest))
          | inr some ↦ absurd (false≢true (sym (ap is_some k.0) ∙ (level-found parent n ∙ ap is_some some.1)))
        ]
  ]

-- ---- the tree after an insert of a new tree that fits

pub spliced-inserted : (parent index : ℕ) (new root : Node) → FitsBelow parent new root → Spliced (ids (tree_after_insert parent index new root)) (ids new) (ids root)
spliced-inserted parent index new root f =
    let p = named-some (find parent root) f.element in
    ids-inserted parent index new root p.0 f.distinct p.1.0 p.1.1

pub distinct-inserted : (parent index : ℕ) (new root : Node) → FitsBelow parent new root → AreDistinct (ids (tree_after_insert parent index new root))
distinct-inserted parent index new root f =
    spliced-distinct (ids (tree_after_insert parent index new root)) (ids new) (ids root) (spliced-inserted parent index new root f) f.distinct f.new_distinct f.apart

pub find-old : (j parent index : ℕ) (new root : Node) → AreDistinct (ids root) → (IsAmong j (ids new) → ⊥)
    → find j (tree_after_insert parent index new root) ≡ option_map (λ x. tree_after_insert parent index new x) (find j root)
find-old j parent index new root d out = find-inserted j parent index new root d (absent-none j new out)

pub find-fresh : (j parent index : ℕ) (new root : Node) → FitsBelow parent new root → IsAmong j (ids new) → find j (tree_after_insert parent index new root) ≡ find j new
find-fresh j parent index new root f a =
    let p = named-some (find parent root) f.element in
    find-new j parent index new root p.0 f.distinct (f.apart j a) p.1.0 p.1.1

pub list-parent : (parent index : ℕ) (new root : Node) → FitsBelow parent new root
    → child_ids parent (tree_after_insert parent index new root) ≡ ids_with index (id_of new) (child_ids parent root)
list-parent parent index new root f =
    let p = named-some (find parent root) f.element in
    let out : IsAmong parent (ids new) → ⊥ = λ a. f.apart parent a (some-among parent root p.0 p.1.0) in
    let at : find parent (tree_after_insert parent index new root) ≡ Some (tree_after_insert parent index new p.0) =
    find-old parent parent index new root f.distinct out ∙ ap (option_map (λ x. tree_after_insert parent index new x)) p.1.0 in
    child_ids-found parent (tree_after_insert parent index new root) (tree_after_insert parent index new p.0) at
    ∙ (children-parent parent index new p.0 (find-id parent root p.0 p.1.0) p.1.1 ∙ sym (ap (ids_with index (id_of new)) (child_ids-found parent root p.0 p.1.0)))

pub list-other : (j parent index : ℕ) (new root : Node) → AreDistinct (ids root) → (IsAmong j (ids new) → ⊥) → (j ≡ parent → ⊥)
    → child_ids j (tree_after_insert parent index new root) ≡ child_ids j root
list-other j parent index new root d out other = elim (none-or-some (find j root)) [
  | inl none ↦
      let at : find j (tree_after_insert parent index new root) ≡ None = find-old j parent index new root d out ∙ ap (option_map (λ x. tree_after_insert parent index new x)) none in
      rw (at, none) refl
  | inr some ↦
      let at : find j (tree_after_insert parent index new root) ≡ Some (tree_after_insert parent index new some.0) =
      find-old j parent index new root d out ∙ ap (option_map (λ x. tree_after_insert parent index new x)) some.1 in
      child_ids-found j (tree_after_insert parent index new root) (tree_after_insert parent index new some.0) at
      ∙ (children-other parent index new some.0 (λ e. other (find-id j root some.0 some.1 ∙ sym e)) ∙ sym (child_ids-found j root some.0 some.1))
]

pub list-fresh : (j parent index : ℕ) (new root : Node) → FitsBelow parent new root → IsAmong j (ids new) → child_ids j (tree_after_insert parent index new root) ≡ child_ids j new
list-fresh j parent index new root f a = ap (λ o. unwrap_or (option_map (λ n. ids_of (children_of n)) o) []) (find-fresh j parent index new root f a)

pub by_itself-old : (j parent index : ℕ) (new root : Node) → AreDistinct (ids root) → (IsAmong j (ids new) → ⊥)
    → option_map by_itself (find j (tree_after_insert parent index new root)) ≡ option_map by_itself (find j root)
by_itself-old j parent index new root d out = ap (option_map by_itself) (find-old j parent index new root d out) ∙ by_itself-inserted parent index new (find j root)

-- ---- parents after an insert

pub parent-new : (parent index : ℕ) (new root : Node) → FitsBelow parent new root → parent_of (id_of new) (tree_after_insert parent index new root) ≡ Some parent
parent-new parent index new root f =
    listed-parent (tree_after_insert parent index new root) (id_of new) parent (distinct-inserted parent index new root f)
    (subst (IsAmong (id_of new)) (sym (list-parent parent index new root f)) (new-listed index (id_of new) (child_ids parent root)))

list-keeps : (j p parent index : ℕ) (new root : Node) → FitsBelow parent new root → IsAmong j (child_ids p root) → IsAmong j (child_ids p (tree_after_insert parent index new root))
list-keeps j p parent index new root f h =
    let x = child-node root j p h in
    let out : IsAmong p (ids new) → ⊥ = λ a. f.apart p a (some-among p root x.0 x.1) in
    elim (cases_Bool (p == parent)) [
      | inl e ↦
          let same : child_ids p (tree_after_insert parent index new root) ≡ ids_with index (id_of new) (child_ids p root) =
          subst (λ (q : ℕ). child_ids q (tree_after_insert parent index new root) ≡ ids_with index (id_of new) (child_ids q root)) (sym (eqb-true p parent e)) (list-parent parent index new root f) in
          subst (IsAmong j) (sym same) (old-listed j index (id_of new) (child_ids p root) h)
      | inr o ↦ subst (IsAmong j) (sym (list-other p parent index new root f.distinct out (eqb-false p parent o))) h
    ]

list-had : (j p parent index : ℕ) (new root : Node) → FitsBelow parent new root → (IsAmong j (ids new) → ⊥) → IsAmong j (child_ids p (tree_after_insert parent index new root)) → IsAmong j (child_ids p root)
list-had j p parent index new root f old h = elim (cases_Bool (is_among p (ids new))) [
  | inl t ↦
      let a : IsAmong p (ids new) = is_among-true p (ids new) t in
      let x = child-node new j p (subst (IsAmong j) (list-fresh p parent index new root f a) h) in
      absurd (old (find-part p new x.0 j x.1 (child-below j x.0 x.2)))
  | inr n ↦
      let out : IsAmong p (ids new) → ⊥ = λ a. false≢true (sym n ∙ among-is_among p (ids new) a) in
      elim (cases_Bool (p == parent)) [
        | inl e ↦
            let same : child_ids p (tree_after_insert parent index new root) ≡ ids_with index (id_of new) (child_ids p root) =
            subst (λ (q : ℕ). child_ids q (tree_after_insert parent index new root) ≡ ids_with index (id_of new) (child_ids q root)) (sym (eqb-true p parent e)) (list-parent parent index new root f) in
            elim (listed-old j index (id_of new) (child_ids p root) (subst (IsAmong j) same h)) [
              | inl k ↦ absurd (old (subst (λ (q : ℕ). IsAmong q (ids new)) (sym k) (among-top new)))
              | inr m ↦ m
            ]
        | inr o ↦ subst (IsAmong j) (list-other p parent index new root f.distinct out (eqb-false p parent o)) h
      ]
]

pub parent-old : (j parent index : ℕ) (new root : Node) → FitsBelow parent new root → (IsAmong j (ids new) → ⊥) → parent_of j (tree_after_insert parent index new root) ≡ parent_of j root
parent-old j parent index new root f old =
    same-parent j (tree_after_insert parent index new root) root (distinct-inserted parent index new root f) f.distinct
    (λ p h. list-had j p parent index new root f old h) (λ p h. list-keeps j p parent index new root f h)

-- ---- counts after an insert

pub node_count-inserted : (parent index : ℕ) (new root : Node) → FitsBelow parent new root → node_count (tree_after_insert parent index new root) ≡ node_count root + node_count new
node_count-inserted parent index new root f =
    spliced-length (ids (tree_after_insert parent index new root)) (ids new) (ids root) (spliced-inserted parent index new root f)

text_sizes-with_child : (k : ℕ) (new : Node) (ns : Nodes) → text_sizes (all_without_ids (with_child k new ns)) ≡ text_size (without_ids new) + text_sizes (all_without_ids ns)
text_sizes-with_child zero new ns = refl
text_sizes-with_child (suc k) new no_nodes = refl
text_sizes-with_child (suc k) new (node n ns) = let rest = text_sizes-with_child k new ns in omega (arith, rest)

mutual
  text_size-grown : (parent index : ℕ) (new n p : Node) → AreDistinct (ids n) → find parent n ≡ Some p → IsSome (name_of p)
      → text_size (without_ids (tree_after_insert parent index new n)) ≡ text_size (without_ids n) + text_size (without_ids new)
  text_size-grown parent index new (element id name attributes children) p d h e = elim (if-found (parent == id) (element id name attributes children) p (find_in parent children) h) [
    | inl k ↦ rw k.0 (let one = text_sizes-with_child index new children in omega (arith, one))
    | inr k ↦ rw k.0 (let below = text_sizes-grown parent index new children p d.1 k.1 e in omega (arith, below))
  ]
  text_size-grown parent index new (text id cs) p d h e = elim (if-found (parent == id) (text id cs) p None h) [
    | inl k ↦ absurd (false≢true (ap (λ n. is_some (name_of n)) (same_Some (text id cs) p k.1) ∙ e))
    | inr k ↦ absurd (none-some p k.1)
  ]

  text_sizes-grown : (parent index : ℕ) (new : Node) (ns : Nodes) (p : Node) → AreDistinct (all_ids ns) → find_in parent ns ≡ Some p → IsSome (name_of p)
      → text_sizes (all_without_ids (nodes_after_insert parent index new ns)) ≡ text_sizes (all_without_ids ns) + text_size (without_ids new)
  text_sizes-grown parent index new no_nodes p d h e = absurd (none-some p h)
  text_sizes-grown parent index new (node n ns) p d h e = elim (or-found (find parent n) (find_in parent ns) p h) [
    | inl k ↦
        let rest : nodes_after_insert parent index new ns ≡ ns = nodes_inserted-absent parent index new ns (found-absent parent n p ns d k) in
        let first = text_size-grown parent index new n p (distinct-left (ids n) (all_ids ns) d) k e in
        rw rest (omega (arith, first))
    | inr k ↦
        let first : tree_after_insert parent index new n ≡ n = inserted-absent parent index new n (unfound-absent parent n k.0) in
        let rest = text_sizes-grown parent index new ns p (distinct-right (ids n) (all_ids ns) d) k.1 e in
        rw first (omega (arith, rest))
  ]

pub text_size-inserted : (parent index : ℕ) (new root : Node) → FitsBelow parent new root
    → text_size (without_ids (tree_after_insert parent index new root)) ≡ text_size (without_ids root) + text_size (without_ids new)
text_size-inserted parent index new root f =
    let p = named-some (find parent root) f.element in
    text_size-grown parent index new root p.0 f.distinct p.1.0 p.1.1

-- ---- what no node of either tree is, no node of the tree after an insert is

-- where no node of the old tree passes, one of the tree after passes exactly where one of the new tree does
have_node-with_child : (e : Text → List Attribute → Bool) (c : Text → Bool) (k : ℕ) (new : Node) (ns : Nodes) → have_node e c (all_without_ids ns) ≡ false
    → have_node e c (all_without_ids (with_child k new ns)) ≡ has_node e c (without_ids new)
have_node-with_child e c zero new ns h = rw h (or-false-right (has_node e c (without_ids new)))
have_node-with_child e c (suc k) new no_nodes h = or-false-right (has_node e c (without_ids new))
have_node-with_child e c (suc k) new (node n ns) h =
    let parts = or-false (has_node e c (without_ids n)) (have_node e c (all_without_ids ns)) h in
    rw parts.0 (have_node-with_child e c k new ns parts.1)

mutual
  has_node-grown : (e : Text → List Attribute → Bool) (c : Text → Bool) (parent index : ℕ) (new n p : Node) → AreDistinct (ids n) → find parent n ≡ Some p → IsSome (name_of p)
      → has_node e c (without_ids n) ≡ false → has_node e c (without_ids (tree_after_insert parent index new n)) ≡ has_node e c (without_ids new)
  has_node-grown e c parent index new (element id name attributes children) p d h s f =
      let parts = or-false (e name attributes) (have_node e c (all_without_ids children)) f in
      elim (if-found (parent == id) (element id name attributes children) p (find_in parent children) h) [
        | inl k ↦ rw (k.0, parts.0) (have_node-with_child e c index new children parts.1)
        | inr k ↦ rw (k.0, parts.0) (have_node-grown e c parent index new children p d.1 k.1 s parts.1)
      ]
  has_node-grown e c parent index new (text id cs) p d h s f = elim (if-found (parent == id) (text id cs) p None h) [
    | inl k ↦ absurd (false≢true (ap (λ n. is_some (name_of n)) (same_Some (text id cs) p k.1) ∙ s))
    | inr k ↦ absurd (none-some p k.1)
  ]

  have_node-grown : (e : Text → List Attribute → Bool) (c : Text → Bool) (parent index : ℕ) (new : Node) (ns : Nodes) (p : Node) → AreDistinct (all_ids ns) → find_in parent ns ≡ Some p → IsSome (name_of p)
      → have_node e c (all_without_ids ns) ≡ false → have_node e c (all_without_ids (nodes_after_insert parent index new ns)) ≡ has_node e c (without_ids new)
  have_node-grown e c parent index new no_nodes p d h s f = absurd (none-some p h)
  have_node-grown e c parent index new (node n ns) p d h s f =
      let parts = or-false (has_node e c (without_ids n)) (have_node e c (all_without_ids ns)) f in
      elim (or-found (find parent n) (find_in parent ns) p h) [
        | inl k ↦
            let rest : nodes_after_insert parent index new ns ≡ ns = nodes_inserted-absent parent index new ns (found-absent parent n p ns d k) in
            rw (rest, parts.1, has_node-grown e c parent index new n p (distinct-left (ids n) (all_ids ns) d) k s parts.0) (or-false-right (has_node e c (without_ids new)))
        | inr k ↦
            let first : tree_after_insert parent index new n ≡ n = inserted-absent parent index new n (unfound-absent parent n k.0) in
            rw (first, parts.0) (have_node-grown e c parent index new ns p (distinct-right (ids n) (all_ids ns) d) k.1 s parts.1)
      ]

pub has_node-inserted : (e : Text → List Attribute → Bool) (c : Text → Bool) (parent index : ℕ) (new root : Node) → FitsBelow parent new root → has_node e c (without_ids root) ≡ false
    → has_node e c (without_ids (tree_after_insert parent index new root)) ≡ has_node e c (without_ids new)
has_node-inserted e c parent index new root f h =
    let p = named-some (find parent root) f.element in
    has_node-grown e c parent index new root p.0 f.distinct p.1.0 p.1.1 h

-- the parent of an old node stays, also where nothing is inserted
pub parent-kept : (j parent index : ℕ) (new root : Node) → AreDistinct (ids root) → AreDistinct (ids new) → AreApart (ids new) (ids root) → (IsAmong j (ids new) → ⊥)
    → parent_of j (tree_after_insert parent index new root) ≡ parent_of j root
parent-kept j parent index new root d e apart old = elim (inserted-named parent index new root d) [
  | inl same ↦ ap (parent_of j) same
  | inr h ↦ parent-old j parent index new root (record { distinct = d; new_distinct = e; apart = apart; element = h }) old
]

pub insert-order : (parent index : ℕ) (new root : Node) → FitsBelow parent new root → HasRun (ids (tree_after_insert parent index new root)) (ids new) (ids root)
insert-order parent index new root f = let s : Spliced (ids (tree_after_insert parent index new root)) (ids new) (ids root) = spliced-inserted parent index new root f in (s.front, (s.back, s.whole_is, s.rest_is))

pub height-inserted : (parent index l : ℕ) (new root : Node) → FitsBelow parent new root → level parent root ≡ Some l → height (tree_after_insert parent index new root) ≡ max (height root) (l + height new)
height-inserted parent index l new root f v = height-grown parent index new root l f.distinct v f.element
