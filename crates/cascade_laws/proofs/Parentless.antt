-- A node without a parent is the root.
use Rattle.std.proofs.Common.{◌≡◌, ◌∙◌, ◌==◌, sym, refl, ℕ, false, None, Option, Some, IsSome, inl, inr, option_and_then}
use Rattle.std.proofs.lemmas.Bool.{cases_Bool, eqb-false}
use Rattle.std.proofs.lemmas.Option.{none-some}
use Rattle.page_laws.proofs.Find.{named-some, some-among}
use Rattle.page_laws.proofs.IsAmong.{among-split}
use Rattle.page_laws.proofs.Options.{or-false}
use Rattle.page_model.specs.Document.{IsAmong, Node, Nodes, all_ids, element, find, id_of, ids, ids_of, is_among, name_at, no_nodes, node, or_else, parent_below, parent_in, parent_of, text}

or-none-both : {X : Type 0} (o p : Option X) → or_else o p ≡ None → (o ≡ None) × (p ≡ None)
or-none-both None p h = (refl, h)
or-none-both (Some x) p h = absurd (none-some x (sym h))

mutual
  orphan-top : (i : ℕ) (n : Node) → parent_in i n ≡ None → IsAmong i (ids n) → i ≡ id_of n
  orphan-top i (element id name attributes children) h (inl e) = e
  orphan-top i (element id name attributes children) h (inr k) = elim (cases_Bool (is_among i (ids_of children))) [
    | inl t ↦ absurd (none-some (element id name attributes children) (sym h ∙ rw t refl))
    | inr f ↦ absurd (orphan-absent i children (sym (rw f refl) ∙ h) f k)
  ]
  orphan-top i (text id cs) h (inl e) = e
  orphan-top i (text id cs) h (inr k) = absurd k

  orphan-absent : (i : ℕ) (ns : Nodes) → parent_below i ns ≡ None → is_among i (ids_of ns) ≡ false → IsAmong i (all_ids ns) → ⊥
  orphan-absent i no_nodes h f k = k
  orphan-absent i (node n ns) h f k =
      let none = or-none-both (parent_in i n) (parent_below i ns) h in
      let out = or-false (i == id_of n) (is_among i (ids_of ns)) f in
      elim (among-split i (ids n) (all_ids ns) k) [
        | inl m ↦ eqb-false i (id_of n) out.0 (orphan-top i n none.0 m)
        | inr m ↦ orphan-absent i ns none.1 out.1 m
      ]

no-parent : (o : Option Node) → option_and_then (λ p. Some (id_of p)) o ≡ None → o ≡ None
no-parent None h = refl
no-parent (Some n) h = absurd (none-some (id_of n) (sym h))

pub parentless-root : (root : Node) (i : ℕ) → IsSome (name_at i root) → parent_of i root ≡ None → i ≡ id_of root
parentless-root root i named h =
    let n = named-some (find i root) named in
    orphan-top i root (no-parent (parent_in i root) h) (some-among i root n.0 n.1.0)
