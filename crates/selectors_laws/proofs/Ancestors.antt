-- The ancestors of a node, in a tree whose ids are distinct.
use Rattle.std.proofs.Common.{◌≡◌, ◌∙◌, ◌≢◌, ◌==◌, ap, sym, subst, refl, inl, inr, ℕ, ◌++◌, [], ◌∷◌, Some, None, is_some, eqb-true, cond, true}
use Rattle.std.proofs.lemmas.Bool.{cases_Bool, eqb-false, false≢true}
use Rattle.std.proofs.lemmas.List.{append-nil}
use Rattle.std.proofs.lemmas.Option.{none-some, same_Some}
use Rattle.page_laws.proofs.Find.{among-children, among-top}
use Rattle.page_laws.proofs.IsAmong.{among-is_among, among-left, among-right, among-split, distinct-apart, distinct-left, distinct-right, is_among-true, not-among}
use Rattle.page_laws.proofs.Options.{if-found, or-found, or-some-left, or-some-right}
use Rattle.page_laws.proofs.ParentOf.{all_parent-among, parent-among}
use Rattle.page_model.specs.Document.{AreDistinct, IsAmong, Node, Nodes, all_ids, element, id_of, ids, ids_of, is_among, no_nodes, node, parent_below, parent_in, text}
use Rattle.selectors_model.specs.Elements.{ancestors_of, ancestors_among}

-- ---- a node that is not below has no ancestors

pub none-outside : (i : ℕ) (n : Node) → (IsAmong i (ids n) → ⊥) → ancestors_of i n ≡ []
none-outside i (element id name attributes children) out =
    ap (λ b. cond b (id ∷ ancestors_among i children) [])
    (not-among i (all_ids children) (λ h. out (inr h)))
none-outside i (text id cs) out = refl

pub none-among-others : (i : ℕ) (ns : Nodes) → (IsAmong i (all_ids ns) → ⊥)
    → ancestors_among i ns ≡ []
none-among-others i no_nodes out = refl
none-among-others i (node n ns) out =
    rw (none-outside i n (λ h. out (among-left i (ids n) (all_ids ns) h)))
    (none-among-others i ns (λ h. out (among-right i (ids n) (all_ids ns) h)))

pub none-of-top : (n : Node) → AreDistinct (ids n) → ancestors_of (id_of n) n ≡ []
none-of-top (element id name attributes children) d =
    ap (λ b. cond b (id ∷ ancestors_among id children) []) (not-among id (all_ids children) d.0)
none-of-top (text id cs) d = refl

-- ---- one that is below a node among others

pub in-first : (i : ℕ) (n : Node) (ns : Nodes) → AreDistinct (ids n ++ all_ids ns)
    → IsAmong i (ids n)
    → ancestors_among i (node n ns) ≡ ancestors_of i n
in-first i n ns d h =
    ap (λ js. ancestors_of i n ++ js)
    (none-among-others i ns (λ k. distinct-apart i (ids n) (all_ids ns) d h k))
    ∙ append-nil (ancestors_of i n)

pub in-rest : (i : ℕ) (n : Node) (ns : Nodes) → AreDistinct (ids n ++ all_ids ns)
    → IsAmong i (all_ids ns)
    → ancestors_among i (node n ns) ≡ ancestors_among i ns
in-rest i n ns d h =
    ap (λ js. js ++ ancestors_among i ns)
    (none-outside i n (λ k. distinct-apart i (ids n) (all_ids ns) d k h))

pub none-of-tops : (i : ℕ) (ns : Nodes) → AreDistinct (all_ids ns) → IsAmong i (ids_of ns)
    → ancestors_among i ns ≡ []
none-of-tops i no_nodes d h = absurd h
none-of-tops i (node n ns) d (inl e) =
    let here : IsAmong i (ids n) = subst (λ (j : ℕ). IsAmong j (ids n)) (sym e) (among-top n) in
    in-first i n ns d here
    ∙ ap (λ j. ancestors_of j n) e
    ∙ none-of-top n (distinct-left (ids n) (all_ids ns) d)
none-of-tops i (node n ns) d (inr h) =
    in-rest i n ns d (among-children i ns h)
    ∙ none-of-tops i ns (distinct-right (ids n) (all_ids ns) d) h

-- below the top of a tree, it is an ancestor, and the others are below it
pub below-top : (i id : ℕ) (children : Nodes) → IsAmong i (all_ids children)
    → cond (is_among i (all_ids children)) (id ∷ ancestors_among i children) []
    ≡ id ∷ ancestors_among i children
below-top i id children h =
    ap (λ b. cond b (id ∷ ancestors_among i children) []) (among-is_among i (all_ids children) h)

-- ---- the parent is the last of the ancestors

mutual
  pub parent-last : (i : ℕ) (n x : Node) → AreDistinct (ids n) → parent_in i n ≡ Some x
      → ancestors_of i n ≡ ancestors_of (id_of x) n ++ (id_of x ∷ [])
  parent-last i (element id name attributes children) x d h =
      elim (if-found (is_among i (ids_of children)) (element id name attributes children) x
      (parent_below i children) h) [
        | inl k ↦
            let kid : IsAmong i (ids_of children) = is_among-true i (ids_of children) k.0 in
            let own : element id name attributes children ≡ x =
            same_Some (element id name attributes children) x k.1 in
            below-top i id children (among-children i children kid)
            ∙ ap (λ js. id ∷ js) (none-of-tops i children d.1 kid)
            ∙ sym (ap (λ js. js ++ (id ∷ [])) (none-of-top (element id name attributes children) d))
            ∙ ap (λ y. ancestors_of (id_of y) (element id name attributes children)
            ++ (id_of y ∷ [])) own
        | inr k ↦
            let both = all_parent-among i children x k.1 in
            below-top i id children both.0
            ∙ ap (λ js. id ∷ js) (parent-last-among i children x d.1 k.1)
            ∙ sym (ap (λ js. js ++ (id_of x ∷ [])) (below-top (id_of x) id children both.1))
      ]
  parent-last i (text id cs) x d h = absurd (none-some x h)

  pub parent-last-among : (i : ℕ) (ns : Nodes) (x : Node) → AreDistinct (all_ids ns)
      → parent_below i ns ≡ Some x
      → ancestors_among i ns ≡ ancestors_among (id_of x) ns ++ (id_of x ∷ [])
  parent-last-among i no_nodes x d h = absurd (none-some x h)
  parent-last-among i (node n ns) x d h = elim (or-found (parent_in i n) (parent_below i ns) x h) [
    | inl k ↦
        let both = parent-among i n x k in
        in-first i n ns d both.0
        ∙ parent-last i n x (distinct-left (ids n) (all_ids ns) d) k
        ∙ sym (ap (λ js. js ++ (id_of x ∷ [])) (in-first (id_of x) n ns d both.1))
    | inr k ↦
        let both = all_parent-among i ns x k.1 in
        in-rest i n ns d both.0
        ∙ parent-last-among i ns x (distinct-right (ids n) (all_ids ns) d) k.1
        ∙ sym (ap (λ js. js ++ (id_of x ∷ [])) (in-rest (id_of x) n ns d both.1))
  ]

-- ---- what has ancestors has a parent

mutual
  pub has-parent : (i : ℕ) (n : Node) → IsAmong i (ids n) → i ≢ id_of n
      → is_some (parent_in i n) ≡ true
  has-parent i (element id name attributes children) (inl e) other = absurd (other e)
  has-parent i (element id name attributes children) (inr h) other =
      elim (cases_Bool (is_among i (ids_of children))) [
        | inl t ↦ rw t refl
        | inr f ↦ rw f (has-parent-below i children h
            (λ k. false≢true (sym f ∙ among-is_among i (ids_of children) k)))
      ]
  has-parent i (text id cs) (inl e) other = absurd (other e)
  has-parent i (text id cs) (inr h) other = absurd h

  pub has-parent-below : (i : ℕ) (ns : Nodes) → IsAmong i (all_ids ns) → (IsAmong i (ids_of ns) → ⊥)
      → is_some (parent_below i ns) ≡ true
  has-parent-below i no_nodes h other = absurd h
  has-parent-below i (node n ns) h other = elim (among-split i (ids n) (all_ids ns) h) [
    | inl k ↦ or-some-left (parent_in i n) (parent_below i ns)
        (has-parent i n k (λ e. other (inl e)))
    | inr k ↦ or-some-right (parent_in i n) (parent_below i ns)
        (has-parent-below i ns k (λ m. other (inr m)))
  ]

-- a node without a parent has no ancestors
pub none-without-parent : (i : ℕ) (n : Node) → AreDistinct (ids n) → parent_in i n ≡ None
    → ancestors_of i n ≡ []
none-without-parent i n d h = elim (cases_Bool (is_among i (ids n))) [
  | inl t ↦ elim (cases_Bool (i == id_of n)) [
    | inl s ↦ ap (λ j. ancestors_of j n) (eqb-true i (id_of n) s) ∙ none-of-top n d
    | inr s ↦ absurd (false≢true (ap is_some (sym h)
        ∙ has-parent i n (is_among-true i (ids n) t) (eqb-false i (id_of n) s)))
  ]
  | inr f ↦ none-outside i n (λ k. false≢true (sym f ∙ among-is_among i (ids n) k))
]
