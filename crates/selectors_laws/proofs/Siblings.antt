-- The siblings of an element, in a tree whose ids are distinct.
use Rattle.std.proofs.Common.{◌≡◌, ◌∙◌, ◌⊎◌, ◌==◌, ap, sym, subst, refl, inl, inr, ℕ, ◌++◌, List, [], ◌∷◌, Option, Some, None, IsSome, option_and_then, option_map, unwrap_or, eq-eqb, ne_eqb, cond, false}
use Rattle.std.proofs.lemmas.Bool.{false≢true}
use Rattle.page_laws.proofs.Find.{absent-none, among-children, child-below, find-distinct, find-top, find-within}
use Rattle.page_laws.proofs.IsAmong.{among-other, distinct-apart, distinct-right}
use Rattle.page_laws.proofs.Options.{none-or-some}
use Rattle.page_laws.proofs.ParentOf.{found-parent, parent-child, parent-found}
use Rattle.page_laws.proofs.Siblings.{children-distinct}
use Rattle.page_model.specs.Document.{AreDistinct, IsAmong, Node, Nodes, all_ids, before, children_of, element, find, find_in, id_of, ids, ids_of, name_at, name_of, no_nodes, node, or_else, parent_in, text}
use Rattle.selectors_model.specs.Elements.{all_before, element_ids, siblings_of}

-- ---- elements among children

pub element-child : (x : ℕ) (ns : Nodes) → IsAmong x (element_ids ns) → IsAmong x (ids_of ns)
element-child x no_nodes h = h
element-child x (node (element id name attributes children) ns) (inl e) = inl e
element-child x (node (element id name attributes children) ns) (inr h) = inr (element-child x ns h)
element-child x (node (text id cs) ns) h = inr (element-child x ns h)

pub elements-distinct : (ns : Nodes) → AreDistinct (ids_of ns) → AreDistinct (element_ids ns)
elements-distinct no_nodes d = d
elements-distinct (node (element id name attributes children) ns) d =
    (λ h. d.0 (element-child id ns h), elements-distinct ns d.1)
elements-distinct (node (text id cs) ns) d = elements-distinct ns d.1

-- a child with a name is an element
named-first : (i : ℕ) (n : Node) (ns : Nodes) → i ≡ id_of n → IsSome (name_of n)
    → IsAmong i (element_ids (node n ns))
named-first i (element id name attributes children) ns e s = inl e
named-first i (text id cs) ns e s = absurd (false≢true s)

in-front : (i : ℕ) (n : Node) (ns : Nodes) → IsAmong i (element_ids ns)
    → IsAmong i (element_ids (node n ns))
in-front i (element id name attributes children) ns h = inr h
in-front i (text id cs) ns h = h

pub named-child : (i : ℕ) (ns : Nodes) → AreDistinct (all_ids ns) → IsAmong i (ids_of ns)
    → IsSome (option_and_then name_of (find_in i ns)) → IsAmong i (element_ids ns)
named-child i no_nodes d h s = h
named-child i (node n ns) d (inl e) s =
    let top : find i n ≡ Some n = ap (λ j. find j n) e ∙ find-top n in
    named-first i n ns e
    (subst (λ (o : Option Node). IsSome (option_and_then name_of (or_else o (find_in i ns))))
    top s)
named-child i (node n ns) d (inr h) s =
    let none : find i n ≡ None =
    absent-none i n (λ k. distinct-apart i (ids n) (all_ids ns) d k (among-children i ns h)) in
    in-front i n ns (named-child i ns (distinct-right (ids n) (all_ids ns) d) h
    (subst (λ (o : Option Node). IsSome (option_and_then name_of (or_else o (find_in i ns))))
    none s))

named-in : (i : ℕ) (x : Node) → AreDistinct (ids x) → IsAmong i (ids_of (children_of x))
    → IsSome (option_and_then name_of (find i x)) → IsAmong i (element_ids (children_of x))
named-in i (element id name attributes children) d h s =
    let other : (i == id) ≡ false =
    among-other i id (all_ids children) d (among-children i children h) in
    named-child i children d.1 h
    (subst (λ b. IsSome (option_and_then name_of
    (cond b (Some (element id name attributes children)) (find_in i children)))) other s)
named-in i (text id cs) d h s = h

-- ---- siblings

pub siblings-below : (i : ℕ) (root x : Node) → parent_in i root ≡ Some x
    → siblings_of i root ≡ element_ids (children_of x)
siblings-below i root x h =
    ap (λ o. unwrap_or (option_map (λ p. element_ids (children_of p)) o) (i ∷ [])) h

pub alone : (i : ℕ) (root : Node) → parent_in i root ≡ None → siblings_of i root ≡ i ∷ []
alone i root h = ap (λ o. unwrap_or (option_map (λ p. element_ids (children_of p)) o) (i ∷ [])) h

-- a sibling has the same siblings
pub same-siblings : (root : Node) (i e : ℕ) → AreDistinct (ids root)
    → IsAmong e (siblings_of i root)
    → siblings_of e root ≡ siblings_of i root
same-siblings root i e d h = elim (none-or-some (parent_in i root)) [
  | inl none ↦ elim (subst (IsAmong e) (alone i root none) h) [
    | inl same ↦ ap (λ j. siblings_of j root) same
    | inr k ↦ absurd k
  ]
  | inr some ↦
      let x : Node = some.0 in
      let kid : IsAmong e (ids_of (children_of x)) =
      element-child e (children_of x) (subst (IsAmong e) (siblings-below i root x some.1) h) in
      siblings-below e root x (found-parent (id_of x) e root x d (parent-found i root x d some.1)
      kid)
      ∙ sym (siblings-below i root x some.1)
]

pub siblings-distinct : (root : Node) (i : ℕ) → AreDistinct (ids root)
    → AreDistinct (siblings_of i root)
siblings-distinct root i d = elim (none-or-some (parent_in i root)) [
  | inl none ↦ subst AreDistinct (sym (alone i root none)) (λ k. k, tt)
  | inr some ↦
      let x : Node = some.0 in
      let own : AreDistinct (ids x) =
      find-distinct (id_of x) root x (parent-found i root x d some.1) d in
      subst AreDistinct (sym (siblings-below i root x some.1))
      (elements-distinct (children_of x) (children-distinct x own))
]

-- an element is one of its siblings
pub own-sibling : (root : Node) (i : ℕ) → AreDistinct (ids root) → IsSome (name_at i root)
    → IsAmong i (siblings_of i root)
own-sibling root i d s = elim (none-or-some (parent_in i root)) [
  | inl none ↦ subst (IsAmong i) (sym (alone i root none)) (inl refl)
  | inr some ↦
      let x : Node = some.0 in
      let found : find (id_of x) root ≡ Some x = parent-found i root x d some.1 in
      let kid : IsAmong i (ids_of (children_of x)) = parent-child i root x some.1 in
      let within : find i root ≡ find i x =
      find-within (id_of x) i root x d found (child-below i x kid) in
      subst (IsAmong i) (sym (siblings-below i root x some.1))
      (named-in i x (find-distinct (id_of x) root x found d) kid
      (subst (λ (o : Option Node). IsSome (option_and_then name_of o)) within s))
]

-- ---- what stands before in a list, and what stands right before

abbrev pub IsBefore : ℕ → Option ℕ → List ℕ → Type 0
IsBefore i last xs =
    ((all_before i xs ≡ []) × (before i last xs ≡ last))
    ⊎ ((p : ℕ) × (before i last xs ≡ Some p) × (all_before i xs ≡ all_before p xs ++ (p ∷ []))
    × IsAmong p xs)

before-top : (i y : ℕ) (last : Option ℕ) (ys : List ℕ) → i ≡ y → IsBefore i last (y ∷ ys)
before-top i y last ys e = inl (
  ap (λ b. cond b [] (y ∷ all_before i ys)) (eq-eqb i y e),
  ap (λ b. cond b last (before i (Some y) ys)) (eq-eqb i y e),
)

before-below : (i y : ℕ) (last : Option ℕ) (ys : List ℕ) → AreDistinct (y ∷ ys) → (i == y) ≡ false
    → IsBefore i (Some y) ys → IsBefore i last (y ∷ ys)
before-below i y last ys d f (inl q) = inr (
  y,
  ap (λ b. cond b last (before i (Some y) ys)) f ∙ q.1,
  ap (λ b. cond b [] (y ∷ all_before i ys)) f
      ∙ ap (λ zs. y ∷ zs) q.0
      ∙ sym (ap (λ b. cond b [] (y ∷ all_before y ys) ++ (y ∷ [])) (eq-eqb y y refl)),
  inl refl,
)
before-below i y last ys d f (inr q) = inr (
  q.0,
  ap (λ b. cond b last (before i (Some y) ys)) f ∙ q.1,
  ap (λ b. cond b [] (y ∷ all_before i ys)) f
      ∙ ap (λ zs. y ∷ zs) q.2
      ∙ sym (ap (λ b. cond b [] (y ∷ all_before q.0 ys) ++ (q.0 ∷ []))
      (ne_eqb q.0 y (λ e. d.0 (subst (λ (x : ℕ). IsAmong x ys) e q.3)))),
  inr q.3,
)

pub right-before : (i : ℕ) (last : Option ℕ) (xs : List ℕ) → AreDistinct xs → IsAmong i xs
    → IsBefore i last xs
right-before i last [] d h = absurd h
right-before i last (y ∷ ys) d (inl e) = before-top i y last ys e
right-before i last (y ∷ ys) d (inr h) =
    before-below i y last ys d (among-other i y ys d h) (right-before i (Some y) ys d.1 h)
