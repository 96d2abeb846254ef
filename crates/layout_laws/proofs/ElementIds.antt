-- The ids of the elements of a tree.
use Rattle.std.proofs.Common.{IsSome, None, Option, Some, eq-eqb, inl, inr, option_and_then, refl, subst, sym, ℕ, ◌==◌, ◌≡◌}
use Rattle.std.proofs.lemmas.Bool.{false≢true}
use Rattle.std.proofs.lemmas.Option.{none-some, same_Some}
use Rattle.std.proofs.Common.{eqb-true}
use Rattle.page_laws.proofs.Find.{absent-none}
use Rattle.page_laws.proofs.IsAmong.{among-left, among-other, among-right, among-split, distinct-append, distinct-apart, distinct-left, distinct-right}
use Rattle.page_laws.proofs.Options.{if-found, or-found}
use Rattle.page_model.specs.Document.{AreDistinct, IsAmong, Node, Nodes, all_ids, element, find, find_in, ids, name_at, name_of, no_nodes, node, or_else, text}
use Rattle.selectors_model.specs.Matching.{elements_among, elements_of}

-- ---- they are ids

mutual
  pub element-id : (i : ℕ) (n : Node) → IsAmong i (elements_of n) → IsAmong i (ids n)
  element-id i (element id name attributes children) (inl e) = inl e
  element-id i (element id name attributes children) (inr h) = inr (elements-id i children h)
  element-id i (text id cs) h = absurd h

  pub elements-id : (i : ℕ) (ns : Nodes) → IsAmong i (elements_among ns) → IsAmong i (all_ids ns)
  elements-id i no_nodes h = absurd h
  elements-id i (node n ns) h = elim (among-split i (elements_of n) (elements_among ns) h) [
    | inl k ↦ among-left i (ids n) (all_ids ns) (element-id i n k)
    | inr k ↦ among-right i (ids n) (all_ids ns) (elements-id i ns k)
  ]

mutual
  pub distinct-elements : (n : Node) → AreDistinct (ids n) → AreDistinct (elements_of n)
  distinct-elements (element id name attributes children) d = (λ h. d.0 (elements-id id children h), all-distinct-elements children d.1)
  distinct-elements (text id cs) d = tt

  pub all-distinct-elements : (ns : Nodes) → AreDistinct (all_ids ns) → AreDistinct (elements_among ns)
  all-distinct-elements no_nodes d = tt
  all-distinct-elements (node n ns) d =
      distinct-append (elements_of n) (elements_among ns)
      (distinct-elements n (distinct-left (ids n) (all_ids ns) d))
      (all-distinct-elements ns (distinct-right (ids n) (all_ids ns) d))
      (λ x h k. distinct-apart x (ids n) (all_ids ns) d (element-id x n h) (elements-id x ns k))

-- ---- an element that is found is among them

mutual
  pub found-element : (i : ℕ) (n m : Node) → find i n ≡ Some m → IsSome (name_of m) → IsAmong i (elements_of n)
  found-element i (element id name attributes children) m found named =
      elim (if-found (i == id) (element id name attributes children) m (find_in i children) found) [
        | inl e ↦ inl (eqb-true i id e.0)
        | inr e ↦ inr (all-found-element i children m e.1 named)
      ]
  found-element i (text id cs) m found named = elim (if-found (i == id) (text id cs) m None found) [
    | inl e ↦ absurd (false≢true (subst (λ (x : Node). IsSome (name_of x)) (sym (same_Some (text id cs) m e.1)) named))
    | inr e ↦ absurd (none-some m e.1)
  ]

  pub all-found-element : (i : ℕ) (ns : Nodes) (m : Node) → find_in i ns ≡ Some m → IsSome (name_of m) → IsAmong i (elements_among ns)
  all-found-element i no_nodes m found named = absurd (none-some m found)
  all-found-element i (node n ns) m found named = elim (or-found (find i n) (find_in i ns) m found) [
    | inl e ↦ among-left i (elements_of n) (elements_among ns) (found-element i n m e named)
    | inr e ↦ among-right i (elements_of n) (elements_among ns) (all-found-element i ns m e.1 named)
  ]

-- ---- where no id stands twice, each of them is an element's

name-first : (o p : Option Node) → IsSome (option_and_then name_of o) → IsSome (option_and_then name_of (or_else o p))
name-first (Some n) p h = h
name-first None p h = absurd (false≢true h)

name-second : (o p : Option Node) → o ≡ None → IsSome (option_and_then name_of p) → IsSome (option_and_then name_of (or_else o p))
name-second o p none h = rw none h

mutual
  pub element-named : (i : ℕ) (n : Node) → AreDistinct (ids n) → IsAmong i (elements_of n) → IsSome (name_at i n)
  element-named i (element id name attributes children) d (inl e) = rw (eq-eqb i id e) refl
  element-named i (element id name attributes children) d (inr h) =
      rw (among-other i id (all_ids children) d (elements-id i children h)) (all-element-named i children d.1 h)
  element-named i (text id cs) d h = absurd h

  pub all-element-named : (i : ℕ) (ns : Nodes) → AreDistinct (all_ids ns) → IsAmong i (elements_among ns) → IsSome (option_and_then name_of (find_in i ns))
  all-element-named i no_nodes d h = absurd h
  all-element-named i (node n ns) d h = elim (among-split i (elements_of n) (elements_among ns) h) [
    | inl k ↦ name-first (find i n) (find_in i ns) (element-named i n (distinct-left (ids n) (all_ids ns) d) k)
    | inr k ↦ name-second (find i n) (find_in i ns)
        (absent-none i n (λ m. distinct-apart i (ids n) (all_ids ns) d m (elements-id i ns k)))
        (all-element-named i ns (distinct-right (ids n) (all_ids ns) d) k)
  ]
