-- Ancestors and siblings before are what steps to parents and to siblings right before lead to.
use Rattle.std.proofs.Common.{◌≡◌, ◌∙◌, ap, sym, subst, inl, inr, ℕ, ◌++◌, length, arith, List, [], ◌∷◌, Some, None, IsSome, option_and_then, option_to_list}
use Rattle.page_laws.proofs.Options.{none-or-some}
use Rattle.page_model.specs.Document.{AreDistinct, IsAmong, Node, id_of, ids, name_at, parent_in}
use Rattle.selectors_model.specs.declared.combinator.Combinator.TheVariants.{Descendant, Child, NextSibling, SubsequentSibling}
use Rattle.selectors_model.specs.Elements.{all_before, left_of, siblings_of}
use Rattle.selectors_laws.specs.Closures.{IsReached}
use Rattle.selectors_laws.proofs.Ancestors.{none-without-parent, parent-last}
use Rattle.selectors_laws.proofs.Closures.{IsFar, far-from-far, far-reached, reached-far}
use Rattle.selectors_laws.proofs.Siblings.{own-sibling, right-before, same-siblings, siblings-distinct}

-- ---- ancestors

abbrev Any : ℕ → Type 0
Any i = Unit {0}

abbrev ancestors : Node → ℕ → List ℕ
ancestors root i = left_of Descendant i root

ancestors-far : (root : Node) → AreDistinct (ids root) → (i : ℕ) → Any i
    → IsFar (ancestors root) (λ j. left_of Child j root) Any i
ancestors-far root d i g = elim (none-or-some (parent_in i root)) [
  | inl none ↦ inl (
    none-without-parent i root d none,
    ap (λ o. option_to_list (option_and_then (λ p. Some (id_of p)) o)) none,
  )
  | inr some ↦ inr (
    id_of some.0,
    ap (λ o. option_to_list (option_and_then (λ p. Some (id_of p)) o)) some.1,
    parent-last i root some.0 d some.1,
    tt,
  )
]

pub ancestor-reached : (root : Node) (i e : ℕ) → AreDistinct (ids root)
    → IsAmong e (left_of Descendant i root)
    → IsReached root Child i e
ancestor-reached root i e d m =
    far-reached root Child (ancestors root) Any (ancestors-far root d) (length (ancestors root i)) i
    e tt (omega arith) m

pub reached-ancestor : (root : Node) (i e : ℕ) → AreDistinct (ids root) → IsReached root Child i e
    → IsAmong e (left_of Descendant i root)
reached-ancestor root i e d r =
    reached-far root Child (ancestors root) Any (ancestors-far root d) i e tt r

-- an ancestor of an ancestor is an ancestor
pub ancestor-of-ancestor : (root : Node) (i a e : ℕ) → AreDistinct (ids root)
    → IsAmong a (left_of Descendant i root) → IsAmong e (left_of Descendant a root)
    → IsAmong e (left_of Descendant i root)
ancestor-of-ancestor root i a e d m k =
    (far-from-far (ancestors root) (λ j. left_of Child j root) Any (ancestors-far root d)
    (length (ancestors root i)) i a tt (omega arith) m).1 e k

-- ---- siblings

abbrev OwnSibling : Node → ℕ → Type 0
OwnSibling root i = IsAmong i (siblings_of i root)

abbrev earlier : Node → ℕ → List ℕ
earlier root i = left_of SubsequentSibling i root

earlier-far : (root : Node) → AreDistinct (ids root) → (i : ℕ) → OwnSibling root i
    → IsFar (earlier root) (λ j. left_of NextSibling j root) (OwnSibling root) i
earlier-far root d i g =
    elim (right-before i None (siblings_of i root) (siblings-distinct root i d) g) [
      | inl q ↦ inl (q.0, ap option_to_list q.1)
      | inr q ↦
          let same : siblings_of q.0 root ≡ siblings_of i root = same-siblings root i q.0 d q.3 in inr (
            q.0,
            ap option_to_list q.1,
            q.2 ∙ sym (ap (λ xs. all_before q.0 xs ++ (q.0 ∷ [])) same),
            subst (IsAmong q.0) (sym same) q.3,
          )
    ]

pub earlier-reached : (root : Node) (i e : ℕ) → AreDistinct (ids root) → IsSome (name_at i root)
    → IsAmong e (left_of SubsequentSibling i root) → IsReached root NextSibling i e
earlier-reached root i e d s m =
    far-reached root NextSibling (earlier root) (OwnSibling root) (earlier-far root d)
    (length (earlier root i)) i e (own-sibling root i d s) (omega arith) m

pub reached-earlier : (root : Node) (i e : ℕ) → AreDistinct (ids root) → IsSome (name_at i root)
    → IsReached root NextSibling i e → IsAmong e (left_of SubsequentSibling i root)
reached-earlier root i e d s r =
    reached-far root NextSibling (earlier root) (OwnSibling root) (earlier-far root d) i e
    (own-sibling root i d s) r

-- a sibling before an earlier sibling is a sibling before
pub earlier-of-earlier : (root : Node) (i a e : ℕ) → AreDistinct (ids root) → IsSome (name_at i root)
    → IsAmong a (left_of SubsequentSibling i root) → IsAmong e (left_of SubsequentSibling a root)
    → IsAmong e (left_of SubsequentSibling i root)
earlier-of-earlier root i a e d s m k =
    (far-from-far (earlier root) (λ j. left_of NextSibling j root) (OwnSibling root)
    (earlier-far root d) (length (earlier root i)) i a (own-sibling root i d s) (omega arith)
    m).1 e k
