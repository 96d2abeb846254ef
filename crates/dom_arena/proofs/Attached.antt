-- The cells after a tree was hung into another.
use Rattle.std.proofs.Common.{IsSome, List, None, Some, ap, drop, eqb-true, inl, inr, option_map, refl, subst, sym, take, ℕ, ◌++◌, ◌==◌, ◌∙◌, ◌≡◌}
use Rattle.std.proofs.lemmas.Bool.{cases_Bool, eqb-false}
use Rattle.std.proofs.lemmas.List.{take-append-drop}
use Rattle.std.proofs.lemmas.Option.{none-some, same_Some}
use Rattle.dom_arena.proofs.Chains.{chain-attached, chain-same, end-among, front-among}
use Rattle.dom_arena.specs.Cells.{AreChained, AreLinked, Cells, Hooks, IsLinked, body_with, final, front}
use Rattle.page_laws.proofs.Find.{among-top, child-below, find-distinct, find-id, find-part, some-among}
use Rattle.page_laws.proofs.IsAmong.{among-left, among-right}
use Rattle.page_laws.proofs.Options.{none-or-some}
use Rattle.page_laws.proofs.ParentOf.{child-lower, child_ids-found, listed-parent}
use Rattle.page_laws.proofs.Siblings.{children-distinct}
use Rattle.page_laws.proofs.TreeAfterInsert.{children-other, children-parent, find-inserted, find-new, id_of-inserted}
use Rattle.page_laws.specs.ChildLists.{ids_with}
use Rattle.page_laws.specs.Ids.{AreApart}
use Rattle.page_laws.specs.Limits.{own_text_size}
use Rattle.page_model.specs.Document.{AreDistinct, IsAmong, Node, by_itself, child_ids, children_of, element, find, id_of, ids, ids_of, name_of, text}
use Rattle.page_model.specs.Edits.{tree_after_insert}

-- ---- children

pub among-take : (j k : ℕ) (xs : List ℕ) → IsAmong j (take k xs) → IsAmong j xs
among-take j k xs a = subst (IsAmong j) (take-append-drop k xs) (among-left j (take k xs) (drop k xs) a)

pub among-drop : (j k : ℕ) (xs : List ℕ) → IsAmong j (drop k xs) → IsAmong j xs
among-drop j k xs a = subst (IsAmong j) (take-append-drop k xs) (among-right j (take k xs) (drop k xs) a)

-- a tree was hung below x, behind so many of its children
pub record Attaches (c c' : Cells) (p k : ℕ) (new x : Node) : Type 0 where
  pub hooks : Hooks c.place c'.place p (id_of new) (final None (take k (ids_of (children_of x)))) (front (drop k (ids_of (children_of x))) None)
  pub body : c'.body p ≡ Some (body_with (by_itself x) (ids_with k (id_of new) (ids_of (children_of x))) (own_text_size x))
  pub others : (j : ℕ) → (j ≡ p → ⊥) → c'.body j ≡ c.body j

size-inserted : (p k : ℕ) (new n : Node) → own_text_size (tree_after_insert p k new n) ≡ own_text_size n
size-inserted p k new (element id name attributes children) = refl
size-inserted p k new (text id cs) = refl

by_itself-inserted : (p k : ℕ) (new n : Node) → by_itself (tree_after_insert p k new n) ≡ by_itself n
by_itself-inserted p k new (element id name attributes children) = refl
by_itself-inserted p k new (text id cs) = refl

pub children-are : (n : Node) (root : Node) (i j : ℕ) → find i root ≡ Some n → IsAmong j (ids_of (children_of n)) → IsAmong j (child_ids i root)
children-are n root i j f a = subst (IsAmong j) (sym (child_ids-found i root n f)) a

-- a node of the old tree that is not the parent
attached-other : (c c' : Cells) (root new x m : Node) (p k i : ℕ) → AreDistinct (ids root) → AreApart (ids new) (ids root) → find p root ≡ Some x → find i root ≡ Some m → (i ≡ p → ⊥)
    → Attaches c c' p k new x → IsLinked c m → IsLinked c' (tree_after_insert p k new m)
attached-other c c' root new x m p k i d apart fx fm ne w h =
    let number : i ≡ id_of m = find-id i root m fm in
    let children : ids_of (children_of (tree_after_insert p k new m)) ≡ ids_of (children_of m) = children-other p k new m (λ e. ne (number ∙ sym e)) in
    let same_id : id_of (tree_after_insert p k new m) ≡ id_of m = id_of-inserted p k new m in
    let foreign : (j : ℕ) → IsAmong j (ids_of (children_of m)) → IsAmong j (ids_of (children_of x)) → ⊥ = λ j a b.
    ne (same_Some i p (sym (listed-parent root j i d (children-are m root i j fm a)) ∙ listed-parent root j p d (children-are x root p j fx b))) in
    let stays : (j : ℕ) → IsAmong j (ids_of (children_of m)) → c'.place j ≡ c.place j = λ j a.
    w.hooks.others j
    (λ e. apart (id_of new) (among-top new) (subst (λ (q : ℕ). IsAmong q (ids root)) e (find-part i root m j fm (child-below j m a))))
    (λ e. foreign j a (among-take j k (ids_of (children_of x)) (end-among j (take k (ids_of (children_of x))) e)))
    (λ e. foreign j a (among-drop j k (ids_of (children_of x)) (front-among j (drop k (ids_of (children_of x))) e))) in (
      ap c'.body same_id ∙ (w.others (id_of m) (λ e. ne (number ∙ e)) ∙ (h.0 ∙ ap Some (λ q. body_with (sym (by_itself-inserted p k new m) q) (sym children q) (sym (size-inserted p k new m) q)))),
      rw (same_id, children) (chain-same c.place c'.place (id_of m) None (ids_of (children_of m)) None stays h.1),
    )

-- the parent
attached-parent : (c c' : Cells) (root new x : Node) (p k : ℕ) → AreDistinct (ids root) → AreApart (ids new) (ids root) → find p root ≡ Some x → IsSome (name_of x)
    → Attaches c c' p k new x → IsLinked c x → IsLinked c' (tree_after_insert p k new x)
attached-parent c c' root new x p k d apart fx named w h =
    let number : p ≡ id_of x = find-id p root x fx in
    let children : ids_of (children_of (tree_after_insert p k new x)) ≡ ids_with k (id_of new) (ids_of (children_of x)) = children-parent p k new x number named in
    let same_id : id_of (tree_after_insert p k new x) ≡ p = id_of-inserted p k new x ∙ sym number in
    let whole : take k (ids_of (children_of x)) ++ drop k (ids_of (children_of x)) ≡ ids_of (children_of x) = take-append-drop k (ids_of (children_of x)) in
    let own : AreDistinct (ids_of (children_of x)) = children-distinct x (find-distinct p root x fx d) in
    let out : IsAmong (id_of new) (ids_of (children_of x)) → ⊥ = λ a. apart (id_of new) (among-top new) (find-part p root x (id_of new) fx (child-below (id_of new) x a)) in (
      ap c'.body same_id ∙ (w.body ∙ ap Some (λ q. body_with (sym (by_itself-inserted p k new x) q) (sym children q) (sym (size-inserted p k new x) q))),
      rw (same_id, children) (chain-attached c.place c'.place p (id_of new) (take k (ids_of (children_of x))) (drop k (ids_of (children_of x)))
          (subst AreDistinct (sym whole) own) (λ a. out (subst (IsAmong (id_of new)) whole a)) w.hooks
          (subst (λ (xs : List ℕ). AreChained c.place p None xs None) (sym whole) (rw number h.1))),
    )

-- a node of the tree that is hung
attached-new : (c c' : Cells) (root new x m : Node) (p k i : ℕ) → AreDistinct (ids new) → AreApart (ids new) (ids root) → find p root ≡ Some x → find i new ≡ Some m
    → Attaches c c' p k new x → IsLinked c m → IsLinked c' m
attached-new c c' root new x m p k i d apart fx fm w h =
    let number : i ≡ id_of m = find-id i new m fm in
    let below : (j : ℕ) → IsAmong j (ids_of (children_of x)) → IsAmong j (ids root) = λ j a. find-part p root x j fx (child-below j x a) in
    let inside : (j : ℕ) → IsAmong j (ids_of (children_of m)) → IsAmong j (ids new) = λ j a. find-part i new m j fm (child-below j m a) in
    let stays : (j : ℕ) → IsAmong j (ids_of (children_of m)) → c'.place j ≡ c.place j = λ j a.
    w.hooks.others j (child-lower i j new m d fm a)
    (λ e. apart j (inside j a) (below j (among-take j k (ids_of (children_of x)) (end-among j (take k (ids_of (children_of x))) e))))
    (λ e. apart j (inside j a) (below j (among-drop j k (ids_of (children_of x)) (front-among j (drop k (ids_of (children_of x))) e)))) in (
      w.others (id_of m) (λ e. apart i (some-among i new m fm) (subst (λ (q : ℕ). IsAmong q (ids root)) (sym (number ∙ e)) (some-among p root x fx))) ∙ h.0,
      chain-same c.place c'.place (id_of m) None (ids_of (children_of m)) None stays h.1,
    )

pub linked-attached : (c c' : Cells) (root new x : Node) (p k : ℕ) → AreDistinct (ids root) → AreDistinct (ids new) → AreApart (ids new) (ids root) → find p root ≡ Some x → IsSome (name_of x)
    → Attaches c c' p k new x → AreLinked c root → AreLinked c new → AreLinked c' (tree_after_insert p k new root)
linked-attached c c' root new x p k d dn apart fx named w h g = λ i n f. elim (none-or-some (find i new)) [
  | inl none ↦
      let at : find i (tree_after_insert p k new root) ≡ option_map (λ y. tree_after_insert p k new y) (find i root) = find-inserted i p k new root d none in
      elim (none-or-some (find i root)) [
        | inl gone ↦ absurd (none-some n (ap (option_map (λ y. tree_after_insert p k new y)) (sym gone) ∙ (sym at ∙ f)))
        | inr some ↦
            let is : tree_after_insert p k new some.0 ≡ n = same_Some (tree_after_insert p k new some.0) n (ap (option_map (λ y. tree_after_insert p k new y)) (sym some.1) ∙ (sym at ∙ f)) in
            subst (IsLinked c') is (elim (cases_Bool (i == p)) [
              | inl t ↦
                  let same : x ≡ some.0 = same_Some x some.0 (sym fx ∙ (ap (λ (q : ℕ). find q root) (sym (eqb-true i p t)) ∙ some.1)) in
                  subst (λ (y : Node). IsLinked c' (tree_after_insert p k new y)) same (attached-parent c c' root new x p k d apart fx named w (h p x fx))
              | inr o ↦ attached-other c c' root new x some.0 p k i d apart fx some.1 (eqb-false i p o) w (h i some.0 some.1)
            ])
      ]
  | inr some ↦
      let out : IsAmong i (ids root) → ⊥ = λ a. apart i (some-among i new some.0 some.1) a in
      let is : some.0 ≡ n = same_Some some.0 n (sym some.1 ∙ (sym (find-new i p k new root x d out fx named) ∙ f)) in
      subst (IsLinked c') is (attached-new c c' root new x some.0 p k i dn apart fx some.1 w (g i some.0 some.1))
]
