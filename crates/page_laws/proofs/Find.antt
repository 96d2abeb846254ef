-- The node that is found by its id.
use Rattle.std.proofs.Common.{IsSome, None, Option, Some, ap, cond, eq-eqb, eqb-true, false, inl, inr, is_some, option_and_then, refl, subst, sym, true, ℕ, ◌++◌, ◌==◌, ◌∙◌, ◌≡◌}
use Rattle.std.proofs.lemmas.Bool.{cases_Bool, false≢true}
use Rattle.std.proofs.lemmas.Option.{none-some, same_Some}
use Rattle.page_laws.proofs.IsAmong.{among-left, among-other, among-right, among-split, distinct-apart, distinct-left, distinct-right}
use Rattle.page_laws.proofs.Options.{if-found, none-or-some, or-found, or-some-left, or-some-right, some-or}
use Rattle.page_model.specs.Document.{AreDistinct, IsAmong, Node, Nodes, all_ids, children_of, element, find, find_in, id_of, ids, ids_of, name_of, no_nodes, node, text}

pub among-top : (n : Node) → IsAmong (id_of n) (ids n)
among-top (element id name attributes children) = inl refl
among-top (text id cs) = inl refl

pub among-children : (x : ℕ) (ns : Nodes) → IsAmong x (ids_of ns) → IsAmong x (all_ids ns)
among-children x no_nodes h = absurd h
among-children x (node n ns) (inl e) = among-left x (ids n) (all_ids ns) (subst (λ (k : ℕ). IsAmong k (ids n)) (sym e) (among-top n))
among-children x (node n ns) (inr h) = among-right x (ids n) (all_ids ns) (among-children x ns h)

-- what is found is among the numbers, and each of these is found
mutual
  pub find-among : (i : ℕ) (n : Node) → is_some (find i n) ≡ true → IsAmong i (ids n)
  find-among i (element id name attributes children) h = elim (cases_Bool (i == id)) [
    | inl t ↦ inl (eqb-true i id t)
    | inr f ↦ inr (find_in-among i children (rw f at h))
  ]
  find-among i (text id cs) h = elim (cases_Bool (i == id)) [
    | inl t ↦ inl (eqb-true i id t)
    | inr f ↦ absurd (false≢true (rw f at h))
  ]

  pub find_in-among : (i : ℕ) (ns : Nodes) → is_some (find_in i ns) ≡ true → IsAmong i (all_ids ns)
  find_in-among i no_nodes h = absurd (false≢true h)
  find_in-among i (node n ns) h = elim (some-or (find i n) (find_in i ns) h) [
    | inl k ↦ among-left i (ids n) (all_ids ns) (find-among i n k)
    | inr k ↦ among-right i (ids n) (all_ids ns) (find_in-among i ns k)
  ]

mutual
  pub among-find : (i : ℕ) (n : Node) → IsAmong i (ids n) → is_some (find i n) ≡ true
  among-find i (element id name attributes children) (inl e) = rw (eq-eqb i id e) refl
  among-find i (element id name attributes children) (inr h) = elim (cases_Bool (i == id)) [
    | inl t ↦ rw t refl
    | inr f ↦ rw f (among-find_in i children h)
  ]
  among-find i (text id cs) (inl e) = rw (eq-eqb i id e) refl
  among-find i (text id cs) (inr h) = absurd h

  pub among-find_in : (i : ℕ) (ns : Nodes) → IsAmong i (all_ids ns) → is_some (find_in i ns) ≡ true
  among-find_in i no_nodes h = absurd h
  among-find_in i (node n ns) h = elim (among-split i (ids n) (all_ids ns) h) [
    | inl k ↦ or-some-left (find i n) (find_in i ns) (among-find i n k)
    | inr k ↦ or-some-right (find i n) (find_in i ns) (among-find_in i ns k)
  ]

mutual
  pub find-part : (i : ℕ) (n p : Node) (x : ℕ) → find i n ≡ Some p → IsAmong x (ids p) → IsAmong x (ids n)
  find-part i (element id name attributes children) p x h k = elim (if-found (i == id) (element id name attributes children) p (find_in i children) h) [
    | inl e ↦ subst (λ (m : Node). IsAmong x (ids m)) (sym (same_Some (element id name attributes children) p e.1)) k
    | inr e ↦ inr (find_in-part i children p x e.1 k)
  ]
  find-part i (text id cs) p x h k = elim (if-found (i == id) (text id cs) p None h) [
    | inl e ↦ subst (λ (m : Node). IsAmong x (ids m)) (sym (same_Some (text id cs) p e.1)) k
    | inr e ↦ absurd (none-some p e.1)
  ]

  pub find_in-part : (i : ℕ) (ns : Nodes) (p : Node) (x : ℕ) → find_in i ns ≡ Some p → IsAmong x (ids p) → IsAmong x (all_ids ns)
  find_in-part i no_nodes p x h k = absurd (none-some p h)
  find_in-part i (node n ns) p x h k = elim (or-found (find i n) (find_in i ns) p h) [
    | inl e ↦ among-left x (ids n) (all_ids ns) (find-part i n p x e k)
    | inr e ↦ among-right x (ids n) (all_ids ns) (find_in-part i ns p x e.1 k)
  ]

mutual
  pub find-distinct : (i : ℕ) (n p : Node) → find i n ≡ Some p → AreDistinct (ids n) → AreDistinct (ids p)
  find-distinct i (element id name attributes children) p h d = elim (if-found (i == id) (element id name attributes children) p (find_in i children) h) [
    | inl e ↦ subst (λ (m : Node). AreDistinct (ids m)) (same_Some (element id name attributes children) p e.1) d
    | inr e ↦ find_in-distinct i children p e.1 d.1
  ]
  find-distinct i (text id cs) p h d = elim (if-found (i == id) (text id cs) p None h) [
    | inl e ↦ subst (λ (m : Node). AreDistinct (ids m)) (same_Some (text id cs) p e.1) d
    | inr e ↦ absurd (none-some p e.1)
  ]

  pub find_in-distinct : (i : ℕ) (ns : Nodes) (p : Node) → find_in i ns ≡ Some p → AreDistinct (all_ids ns) → AreDistinct (ids p)
  find_in-distinct i no_nodes p h d = absurd (none-some p h)
  find_in-distinct i (node n ns) p h d = elim (or-found (find i n) (find_in i ns) p h) [
    | inl e ↦ find-distinct i n p e (distinct-left (ids n) (all_ids ns) d)
    | inr e ↦ find_in-distinct i ns p e.1 (distinct-right (ids n) (all_ids ns) d)
  ]

mutual
  pub find-id : (i : ℕ) (root n : Node) → find i root ≡ Some n → i ≡ id_of n
  find-id i (element id name attributes children) n h =
      elim (if-found (i == id) (element id name attributes children) n (find_in i children) h) [
        | inl e ↦ eqb-true i id e.0 ∙ ap id_of (same_Some _ _ e.1)
        | inr k ↦ find_in-id i children n k.1
      ]
  find-id i (text id cs) n h =
      elim (if-found (i == id) (text id cs) n None h) [
        | inl e ↦ eqb-true i id e.0 ∙ ap id_of (same_Some _ _ e.1)
        | inr k ↦ absurd (none-some n k.1)
      ]

  pub find_in-id : (i : ℕ) (ns : Nodes) (n : Node) → find_in i ns ≡ Some n → i ≡ id_of n
  find_in-id i no_nodes n h = absurd (none-some n h)
  find_in-id i (node m ms) n h =
      elim (or-found (find i m) (find_in i ms) n h) [
        | inl k ↦ find-id i m n k
        | inr k ↦ find_in-id i ms n k.1
      ]

pub absent-none : (i : ℕ) (n : Node) → (IsAmong i (ids n) → ⊥) → find i n ≡ None
absent-none i n out = elim (none-or-some (find i n)) [
  | inl none ↦ none
  | inr some ↦ absurd (out (find-among i n (ap is_some some.1)))
]

pub some-among : (i : ℕ) (n x : Node) → find i n ≡ Some x → IsAmong i (ids n)
some-among i n x h = find-among i n (ap is_some h)

-- what has a name is an element
pub named-some : (o : Option Node) → IsSome (option_and_then name_of o) → (x : Node) × ((o ≡ Some x) × IsSome (name_of x))
named-some (Some x) h = (x, (refl, h))
named-some None h = absurd (false≢true h)

pub all_absent-none : (i : ℕ) (ns : Nodes) → (IsAmong i (all_ids ns) → ⊥) → find_in i ns ≡ None
all_absent-none i ns out = elim (none-or-some (find_in i ns)) [
  | inl none ↦ none
  | inr some ↦ absurd (out (find_in-among i ns (ap is_some some.1)))
]

pub unfound-absent : (i : ℕ) (n : Node) → find i n ≡ None → IsAmong i (ids n) → ⊥
unfound-absent i n h k = false≢true (ap is_some (sym h) ∙ among-find i n k)

pub found-absent : (i : ℕ) (n p : Node) (ns : Nodes) → AreDistinct (ids n ++ all_ids ns) → find i n ≡ Some p → IsAmong i (all_ids ns) → ⊥
found-absent i n p ns d h k = distinct-apart i (ids n) (all_ids ns) d (find-among i n (ap is_some h)) k

pub find-top : (n : Node) → find (id_of n) n ≡ Some n
find-top (element id name attributes children) = ap (λ b. cond b (Some (element id name attributes children)) (find_in id children)) (eq-eqb id id refl)
find-top (text id cs) = ap (λ b. cond b (Some (text id cs)) None) (eq-eqb id id refl)

mutual
  -- what is found below a node that is found is what is found in all
  pub find-within : (i p : ℕ) (n x : Node) → AreDistinct (ids n) → find i n ≡ Some x → IsAmong p (ids x) → find p n ≡ find p x
  find-within i p (element id name attributes children) x d h k = elim (if-found (i == id) (element id name attributes children) x (find_in i children) h) [
    | inl a ↦ ap (find p) (same_Some (element id name attributes children) x a.1)
    | inr a ↦
        let other : (p == id) ≡ false = among-other p id (all_ids children) d (find_in-part i children x p a.1 k) in
        rw other (find_in-within i p children x d.1 a.1 k)
  ]
  find-within i p (text id cs) x d h k = elim (if-found (i == id) (text id cs) x None h) [
    | inl a ↦ ap (find p) (same_Some (text id cs) x a.1)
    | inr a ↦ absurd (none-some x a.1)
  ]

  pub find_in-within : (i p : ℕ) (ns : Nodes) (x : Node) → AreDistinct (all_ids ns) → find_in i ns ≡ Some x → IsAmong p (ids x) → find_in p ns ≡ find p x
  find_in-within i p no_nodes x d h k = absurd (none-some x h)
  find_in-within i p (node n ns) x d h k = elim (or-found (find i n) (find_in i ns) x h) [
    | inl a ↦
        let same : find p n ≡ find p x = find-within i p n x (distinct-left (ids n) (all_ids ns) d) a k in
        elim (none-or-some (find p x)) [
          | inl none ↦ absurd (unfound-absent p x none k)
          | inr some ↦ let here : find p n ≡ Some some.0 = same ∙ some.1 in rw (here, some.1) refl
        ]
    | inr a ↦
        let there : IsAmong p (all_ids ns) = find_in-part i ns x p a.1 k in
        let none : find p n ≡ None = absent-none p n (λ m. distinct-apart p (ids n) (all_ids ns) d m there) in
        rw none (find_in-within i p ns x (distinct-right (ids n) (all_ids ns) d) a.1 k)
  ]

pub child-below : (x : ℕ) (p : Node) → IsAmong x (ids_of (children_of p)) → IsAmong x (ids p)
child-below x (element id name attributes children) h = inr (among-children x children h)
child-below x (text id cs) h = absurd h
