-- The tree in which a node has another place.
use Rattle.std.proofs.Common.{IsSome, List, None, Some, [], ap, eqb-true, inl, inr, is_some, ne_eqb, option_map, refl, subst, sym, unwrap_or, ℕ, ◌==◌, ◌↔◌, ◌∙◌, ◌∷◌, ◌≡◌}
use Rattle.std.proofs.lemmas.Bool.{cases_Bool, eqb-false, false≢true}
use Rattle.page_laws.proofs.Find.{absent-none, find-distinct, find-id, find-within, named-some, unfound-absent}
use Rattle.page_laws.proofs.IsAmong.{among-is_among, is_among-true}
use Rattle.page_laws.proofs.Options.{none-or-some}
use Rattle.page_laws.proofs.ParentOf.{child-lower, child-node, listed-parent, same-parent}
use Rattle.page_laws.proofs.Spliced.{Spliced, part-apart, spliced-among, spliced-part, spliced-rest}
use Rattle.page_laws.proofs.TreeAfterInsert.{by_itself-old, distinct-inserted, find-fresh, list-fresh, list-other, list-parent, listed-old, new-listed, node_count-inserted, old-listed, spliced-inserted, text_size-inserted}
use Rattle.page_laws.proofs.TreeAfterRemove.{among-kept, by_itself-left, distinct-removed, find-left, left-some, list-left, listed-without, name_of-removed, node_count-removed, spliced-removed, text_size-removed, without-listed}
use Rattle.page_laws.specs.ChildLists.{ids_with, ids_without}
use Rattle.page_laws.specs.Ids.{CanMove, FitsBelow}
use Rattle.page_model.specs.Document.{AreDistinct, IsAmong, Node, by_itself, child_ids, children_of, find, ids, ids_of, is_among, node_count, parent_of, without_ids}
use Rattle.page_model.specs.Edits.{tree_after_insert, tree_after_move, tree_after_remove}
use Rattle.page_model.specs.Trees.{text_size}

-- ---- the parts of a move

-- the new parent is still there when the node is taken out
pub parent-stays : (i parent : ℕ) (n root : Node) → CanMove i parent n root → IsSome (find parent (tree_after_remove i root))
parent-stays i parent n root m =
    let p = named-some (find parent root) m.element in
    left-some i parent root n m.distinct m.found m.not_root (ap is_some p.1.0) m.outside

pub fits-left : (i parent : ℕ) (n root : Node) → CanMove i parent n root → FitsBelow parent n (tree_after_remove i root)
fits-left i parent n root m =
    let p = named-some (find parent root) m.element in
    let at : find parent (tree_after_remove i root) ≡ Some (tree_after_remove i p.0) =
    find-left i parent root m.distinct (parent-stays i parent n root m) ∙ ap (option_map (λ x. tree_after_remove i x)) p.1.0 in
    record {
      distinct = distinct-removed i root m.distinct;
      new_distinct = find-distinct i root n m.found m.distinct;
      apart = part-apart (ids root) (ids n) (ids (tree_after_remove i root)) (spliced-removed i root n m.distinct m.found m.not_root) m.distinct;
      element = rw at (ap is_some (name_of-removed i p.0) ∙ p.1.1);
    }

pub move-is : (i parent index : ℕ) (n root : Node) → find i root ≡ Some n → tree_after_move i parent index root ≡ tree_after_insert parent index n (tree_after_remove i root)
move-is i parent index n root f = ap (λ o. unwrap_or (option_map (λ x. tree_after_insert parent index x (tree_after_remove i root)) o) root) f

-- ---- ids

pub among-moved : (i j parent index : ℕ) (n root : Node) → CanMove i parent n root → IsAmong j (ids root) ↔ IsAmong j (ids (tree_after_move i parent index root))
among-moved i j parent index n root m =
    let out : Spliced (ids root) (ids n) (ids (tree_after_remove i root)) = spliced-removed i root n m.distinct m.found m.not_root in
    let into : Spliced (ids (tree_after_insert parent index n (tree_after_remove i root))) (ids n) (ids (tree_after_remove i root)) =
    spliced-inserted parent index n (tree_after_remove i root) (fits-left i parent n root m) in
    rw (move-is i parent index n root m.found) (
      λ h. elim (spliced-among j (ids root) (ids n) (ids (tree_after_remove i root)) out h) [
        | inl k ↦ spliced-part j _ (ids n) (ids (tree_after_remove i root)) into k
        | inr k ↦ spliced-rest j _ (ids n) (ids (tree_after_remove i root)) into k
      ],
      λ h. elim (spliced-among j (ids (tree_after_insert parent index n (tree_after_remove i root))) (ids n) (ids (tree_after_remove i root)) into h) [
        | inl k ↦ spliced-part j _ (ids n) (ids (tree_after_remove i root)) out k
        | inr k ↦ spliced-rest j _ (ids n) (ids (tree_after_remove i root)) out k
      ],
    )

pub distinct-moved : (i parent index : ℕ) (n root : Node) → CanMove i parent n root → AreDistinct (ids (tree_after_move i parent index root))
distinct-moved i parent index n root m =
    rw (move-is i parent index n root m.found) (distinct-inserted parent index n (tree_after_remove i root) (fits-left i parent n root m))

pub node_count-moved : (i parent index : ℕ) (n root : Node) → CanMove i parent n root → node_count (tree_after_move i parent index root) ≡ node_count root
node_count-moved i parent index n root m =
    rw (move-is i parent index n root m.found)
    (node_count-inserted parent index n (tree_after_remove i root) (fits-left i parent n root m) ∙ sym (node_count-removed i root n m.distinct m.found m.not_root))

pub text_size-moved : (i parent index : ℕ) (n root : Node) → CanMove i parent n root → text_size (without_ids (tree_after_move i parent index root)) ≡ text_size (without_ids root)
text_size-moved i parent index n root m =
    rw (move-is i parent index n root m.found)
    (text_size-inserted parent index n (tree_after_remove i root) (fits-left i parent n root m) ∙ sym (text_size-removed i root n m.distinct m.found m.not_root))

-- ---- nodes by themselves

-- a node that is not moved is not in the moved tree, or it is found in the tree that is left
pub by_itself-moved : (i j parent index : ℕ) (n root : Node) → CanMove i parent n root → option_map by_itself (find j (tree_after_move i parent index root)) ≡ option_map by_itself (find j root)
by_itself-moved i j parent index n root m =
    let rest : Node = tree_after_remove i root in
    let fits = fits-left i parent n root m in
    rw (move-is i parent index n root m.found) (elim (cases_Bool (is_among j (ids n))) [
      | inl t ↦
          let a : IsAmong j (ids n) = is_among-true j (ids n) t in
          ap (option_map by_itself) (find-fresh j parent index n rest fits a ∙ sym (find-within i j root n m.distinct m.found a))
      | inr f ↦
          let out : IsAmong j (ids n) → ⊥ = λ a. false≢true (sym f ∙ among-is_among j (ids n) a) in
          by_itself-old j parent index n rest fits.distinct out ∙ (elim (none-or-some (find j root)) [
            | inl none ↦ ap (option_map by_itself) (absent-none j rest (λ a. unfound-absent j root none (among-kept i j root a)) ∙ sym none)
            | inr some ↦ by_itself-left i j root m.distinct (left-some i j root n m.distinct m.found m.not_root (ap is_some some.1) out)
          ])
    ])

-- ---- lists of children

pub without-absent : (i : ℕ) (xs : List ℕ) → (IsAmong i xs → ⊥) → ids_without i xs ≡ xs
without-absent i [] out = refl
without-absent i (x ∷ xs) out = rw (ne_eqb i x (λ e. out (inl e))) (ap (λ (r : List ℕ). x ∷ r) (without-absent i xs (λ a. out (inr a))))

pub list-dead : (j : ℕ) (root : Node) → find j root ≡ None → child_ids j root ≡ []
list-dead j root none = ap (λ o. unwrap_or (option_map (λ n. ids_of (children_of n)) o) []) none

pub list-moved-parent : (i parent index : ℕ) (n root : Node) → CanMove i parent n root
    → child_ids parent (tree_after_move i parent index root) ≡ ids_with index i (ids_without i (child_ids parent root))
list-moved-parent i parent index n root m =
    rw (move-is i parent index n root m.found)
    (list-parent parent index n (tree_after_remove i root) (fits-left i parent n root m)
    ∙ λ j. ids_with index (sym (find-id i root n m.found) j) (list-left i parent root m.distinct (parent-stays i parent n root m) j))

pub list-moved-other : (i j parent index : ℕ) (n root : Node) → CanMove i parent n root → (j ≡ parent → ⊥)
    → child_ids j (tree_after_move i parent index root) ≡ ids_without i (child_ids j root)
list-moved-other i j parent index n root m other =
    let rest : Node = tree_after_remove i root in
    let fits = fits-left i parent n root m in
    rw (move-is i parent index n root m.found) (elim (cases_Bool (is_among j (ids n))) [
      | inl t ↦
          let a : IsAmong j (ids n) = is_among-true j (ids n) t in
          let within : find j root ≡ find j n = find-within i j root n m.distinct m.found a in
          let same : child_ids j (tree_after_insert parent index n rest) ≡ child_ids j root =
          list-fresh j parent index n rest fits a ∙ sym (ap (λ o. unwrap_or (option_map (λ x. ids_of (children_of x)) o) []) within) in
          let out : IsAmong i (child_ids j root) → ⊥ = λ h.
          let x = child-node root i j h in
          child-lower j i n x.0 fits.new_distinct (sym within ∙ x.1) x.2 (find-id i root n m.found) in
          same ∙ sym (without-absent i (child_ids j root) out)
      | inr f ↦
          let out : IsAmong j (ids n) → ⊥ = λ a. false≢true (sym f ∙ among-is_among j (ids n) a) in
          list-other j parent index n rest fits.distinct out other ∙ (elim (none-or-some (find j root)) [
            | inl none ↦
                list-dead j rest (absent-none j rest (λ a. unfound-absent j root none (among-kept i j root a))) ∙ sym (ap (ids_without i) (list-dead j root none))
            | inr some ↦ list-left i j root m.distinct (left-some i j root n m.distinct m.found m.not_root (ap is_some some.1) out)
          ])
    ])

-- ---- parents

pub parent-moved : (i parent index : ℕ) (n root : Node) → CanMove i parent n root → parent_of i (tree_after_move i parent index root) ≡ Some parent
parent-moved i parent index n root m =
    listed-parent (tree_after_move i parent index root) i parent (distinct-moved i parent index n root m)
    (subst (IsAmong i) (sym (list-moved-parent i parent index n root m)) (new-listed index i (ids_without i (child_ids parent root))))

moved-listed : (i j p parent index : ℕ) (n root : Node) → CanMove i parent n root → (j ≡ i → ⊥) → IsAmong j (child_ids p root) ↔ IsAmong j (child_ids p (tree_after_move i parent index root))
moved-listed i j p parent index n root m other = elim (cases_Bool (p == parent)) [
  | inl t ↦
      let e : p ≡ parent = eqb-true p parent t in
      let list : child_ids p (tree_after_move i parent index root) ≡ ids_with index i (ids_without i (child_ids p root)) =
      subst (λ (q : ℕ). child_ids q (tree_after_move i parent index root) ≡ ids_with index i (ids_without i (child_ids q root))) (sym e) (list-moved-parent i parent index n root m) in
      rw list (
        λ h. old-listed j index i (ids_without i (child_ids p root)) (listed-without j i (child_ids p root) other h),
        λ h. elim (listed-old j index i (ids_without i (child_ids p root)) h) [
          | inl k ↦ absurd (other k)
          | inr k ↦ without-listed j i (child_ids p root) k
        ],
      )
  | inr f ↦
      rw (list-moved-other i p parent index n root m (eqb-false p parent f)) (
        λ h. listed-without j i (child_ids p root) other h,
        λ h. without-listed j i (child_ids p root) h,
      )
]

pub parent-unmoved : (i j parent index : ℕ) (n root : Node) → CanMove i parent n root → (j ≡ i → ⊥) → parent_of j (tree_after_move i parent index root) ≡ parent_of j root
parent-unmoved i j parent index n root m other =
    same-parent j (tree_after_move i parent index root) root (distinct-moved i parent index n root m) m.distinct
    (λ p h. (moved-listed i j p parent index n root m other).1 h) (λ p h. (moved-listed i j p parent index n root m other).0 h)
