-- The document after a load and after an insert.
use Rattle.std.proofs.Common.{IsSome, List, None, Some, ap, arith, inl, inr, option_map, subst, sym, ℕ, ◌<◌, ◌∙◌, ◌≡◌, ◌≤◌, ◌⊎◌}
use Rattle.page_laws.proofs.Find.{absent-none, find-top, named-some, unfound-absent}
use Rattle.page_laws.proofs.Spliced.{Spliced, spliced-among, spliced-distinct}
use Rattle.page_laws.proofs.TreeAfterInsert.{by_itself-old, find-new, ids-inserted, inserted-named, list-other, list-parent, parent-new, parent-old}
use Rattle.page_laws.proofs.WithIds.{among-count_up, count_up-distinct, distinct-with_ids, id_of-with_ids, ids-with_ids}
use Rattle.page_laws.specs.ChildLists.{TakesChildren, ids_with}
use Rattle.page_laws.specs.Ids.{FitsBelow, HasGivenIds, HasRun, count_up}
use Rattle.page_model.specs.Document.{AreDistinct, Document, IsAmong, Node, by_itself, child_ids, document, find, ids, name_at, parent_of, with_ids}
use Rattle.page_model.specs.Edits.{document_after_insert, tree_after_insert}
use Rattle.page_model.specs.Trees.{Tree, size}

-- the numbers of the new tree stand together among the old ones
pub spliced-named : (parent index next : ℕ) (t : Tree) (n : Node) → AreDistinct (ids n) → IsSome (name_at parent n) → Spliced (ids (tree_after_insert parent index (with_ids next t) n)) (count_up next (size t)) (ids n)
spliced-named parent index next t n d h =
    let p = named-some (find parent n) h in
    subst (λ (part : List ℕ). Spliced (ids (tree_after_insert parent index (with_ids next t) n)) part (ids n)) (ids-with_ids next t) (ids-inserted parent index (with_ids next t) n p.0 d p.1.0 p.1.1)

pub insert-numbers : (parent index next : ℕ) (t : Tree) (n : Node) → AreDistinct (ids n)
    → (tree_after_insert parent index (with_ids next t) n ≡ n) ⊎ Spliced (ids (tree_after_insert parent index (with_ids next t) n)) (count_up next (size t)) (ids n)
insert-numbers parent index next t n d = elim (inserted-named parent index (with_ids next t) n d) [
  | inl e ↦ inl e
  | inr h ↦ inr (spliced-named parent index next t n d h)
]

pub well-inserted : (parent index : ℕ) (t : Tree) (d : Document) → HasGivenIds d → HasGivenIds (document_after_insert parent index t d)
well-inserted parent index t d w =
    let new : List ℕ = count_up d.next_id (size t) in
    let all : List ℕ = ids (document_after_insert parent index t d).root in
    elim (insert-numbers parent index d.next_id t d.root w.0) [
      | inl e ↦ (
        subst AreDistinct (sym (ap ids e)) w.0,
        λ i h. let low : i < d.next_id = w.1 i (subst (IsAmong i) (ap ids e) h) in omega (arith, low),
      )
      | inr s ↦ (
        spliced-distinct all new (ids d.root) s w.0 (count_up-distinct d.next_id (size t)) (λ x h k.
            let high = among-count_up x d.next_id (size t) h in
            let low : x < d.next_id = w.1 x k in
            omega (arith, high.0, low)),
        λ i h. elim (spliced-among i all new (ids d.root) s h) [
          | inl k ↦ (among-count_up i d.next_id (size t) k).1
          | inr k ↦ let low : i < d.next_id = w.1 i k in omega (arith, low)
        ],
      )
    ]

-- the nodes that lived before are those below the first new number
pub among-inserted : (parent index : ℕ) (t : Tree) (d : Document) (j : ℕ) → HasGivenIds d → j < d.next_id → IsAmong j (ids (document_after_insert parent index t d).root) → IsAmong j (ids d.root)
among-inserted parent index t d j w low h = elim (insert-numbers parent index d.next_id t d.root w.0) [
  | inl e ↦ subst (IsAmong j) (ap ids e) h
  | inr s ↦ elim (spliced-among j (ids (document_after_insert parent index t d).root) (count_up d.next_id (size t)) (ids d.root) s h) [
    | inl k ↦ let high = among-count_up j d.next_id (size t) k in absurd (omega (arith, high.0, low))
    | inr k ↦ k
  ]
]

pub dead-inserted : (parent index : ℕ) (t : Tree) (d : Document) (j : ℕ) → HasGivenIds d → j < d.next_id → find j d.root ≡ None → find j (document_after_insert parent index t d).root ≡ None
dead-inserted parent index t d j w low none =
    absent-none j (document_after_insert parent index t d).root (λ h. unfound-absent j d.root none (among-inserted parent index t d j w low h))

pub well-loaded : (t : Tree) → HasGivenIds (document t)
well-loaded t = (
  subst AreDistinct (sym (ids-with_ids 0 t)) (count_up-distinct 0 (size t)),
  λ i h. let low = among-count_up i 0 (size t) (subst (IsAmong i) (ids-with_ids 0 t) h) in omega (arith, low.1),
)

pub fits-document : (parent : ℕ) (t : Tree) (d : Document) → TakesChildren parent d → FitsBelow parent (with_ids d.next_id t) d.root
fits-document parent t d k = record {
  distinct = k.0.0;
  new_distinct = distinct-with_ids d.next_id t;
  apart = λ x a b.
      let high = among-count_up x d.next_id (size t) (subst (IsAmong x) (ids-with_ids d.next_id t) a) in
      let low : x < d.next_id = k.0.1 x b in
      omega (arith, high.0, low);
  element = k.1;
}

-- an id that was given before is not one of the new nodes
pub old-id : (j next : ℕ) (t : Tree) → j < next → IsAmong j (ids (with_ids next t)) → ⊥
old-id j next t low h =
    let high = among-count_up j next (size t) (subst (IsAmong j) (ids-with_ids next t) h) in
    omega (arith, high.0, low)

pub new-list : (parent index : ℕ) (t : Tree) (d : Document) → TakesChildren parent d → child_ids parent (document_after_insert parent index t d).root ≡ ids_with index d.next_id (child_ids parent d.root)
new-list parent index t d k =
    list-parent parent index (with_ids d.next_id t) d.root (fits-document parent t d k) ∙ ap (λ i. ids_with index i (child_ids parent d.root)) (id_of-with_ids d.next_id t)

pub old-list : (parent index : ℕ) (t : Tree) (d : Document) (j : ℕ) → HasGivenIds d → j < d.next_id → (j ≡ parent → ⊥) → child_ids j (document_after_insert parent index t d).root ≡ child_ids j d.root
old-list parent index t d j w low other = list-other j parent index (with_ids d.next_id t) d.root w.0 (old-id j d.next_id t low) other

pub old-by_itself : (parent index : ℕ) (t : Tree) (d : Document) (j : ℕ) → HasGivenIds d → j < d.next_id
    → option_map by_itself (find j (document_after_insert parent index t d).root) ≡ option_map by_itself (find j d.root)
old-by_itself parent index t d j w low = by_itself-old j parent index (with_ids d.next_id t) d.root w.0 (old-id j d.next_id t low)

pub new-nodes : (parent index : ℕ) (t : Tree) (d : Document) (j : ℕ) → TakesChildren parent d → d.next_id ≤ j → find j (document_after_insert parent index t d).root ≡ find j (with_ids d.next_id t)
new-nodes parent index t d j k high =
    let p = named-some (find parent d.root) k.1 in
    let out : IsAmong j (ids d.root) → ⊥ = λ a. let low : j < d.next_id = k.0.1 j a in omega (arith, low, high) in
    find-new j parent index (with_ids d.next_id t) d.root p.0 k.0.0 out p.1.0 p.1.1

pub new-tree : (parent index : ℕ) (t : Tree) (d : Document) → TakesChildren parent d → find d.next_id (document_after_insert parent index t d).root ≡ Some (with_ids d.next_id t)
new-tree parent index t d k =
    new-nodes parent index t d d.next_id k (omega (arith)) ∙ (ap (λ (i : ℕ). find i (with_ids d.next_id t)) (sym (id_of-with_ids d.next_id t)) ∙ find-top (with_ids d.next_id t))

pub document-order : (parent index : ℕ) (t : Tree) (d : Document) → TakesChildren parent d → HasRun (ids (document_after_insert parent index t d).root) (count_up d.next_id (size t)) (ids d.root)
document-order parent index t d k =
    let s : Spliced (ids (document_after_insert parent index t d).root) (count_up d.next_id (size t)) (ids d.root) = spliced-named parent index d.next_id t d.root k.0.0 k.1 in
    (s.front, (s.back, s.whole_is, s.rest_is))

pub new-parent : (parent index : ℕ) (t : Tree) (d : Document) → TakesChildren parent d → parent_of d.next_id (document_after_insert parent index t d).root ≡ Some parent
new-parent parent index t d k =
    ap (λ i. parent_of i (document_after_insert parent index t d).root) (sym (id_of-with_ids d.next_id t)) ∙ parent-new parent index (with_ids d.next_id t) d.root (fits-document parent t d k)

pub old-parent : (parent index : ℕ) (t : Tree) (d : Document) (j : ℕ) → HasGivenIds d → j < d.next_id → parent_of j (document_after_insert parent index t d).root ≡ parent_of j d.root
old-parent parent index t d j w low = elim (inserted-named parent index (with_ids d.next_id t) d.root w.0) [
  | inl e ↦ ap (parent_of j) e
  | inr h ↦ parent-old j parent index (with_ids d.next_id t) d.root (fits-document parent t d (w, h)) (old-id j d.next_id t low)
]
