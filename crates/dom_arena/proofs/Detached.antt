-- The cells after a tree was taken from another.
use Rattle.std.proofs.Common.{List, None, Some, [], ap, eq-eqb, eqb-true, inl, inr, ne_eqb, option_map, refl, subst, sym, ℕ, ◌++◌, ◌==◌, ◌∙◌, ◌∷◌, ◌≡◌, ◌⊎◌}
use Rattle.std.proofs.lemmas.Bool.{cases_Bool, eqb-false}
use Rattle.std.proofs.lemmas.Option.{none-some, same_Some}
use Rattle.dom_arena.proofs.Attached.{children-are}
use Rattle.dom_arena.proofs.Chains.{chain-detached, chain-same, end-among, front-among}
use Rattle.dom_arena.specs.Cells.{AreChained, AreLinked, Cells, IsLinked, Unhooks, body_with, final, front}
use Rattle.page_laws.proofs.Find.{find-distinct, find-id, find-within, some-among}
use Rattle.page_laws.proofs.IsAmong.{among-left, among-right}
use Rattle.page_laws.proofs.Options.{none-or-some}
use Rattle.page_laws.proofs.ParentOf.{child-lower, listed-parent}
use Rattle.page_laws.proofs.Siblings.{children-distinct}
use Rattle.page_laws.proofs.TreeAfterMove.{without-absent}
use Rattle.page_laws.proofs.TreeAfterRemove.{children-removed, find-removed, id_of-removed}
use Rattle.page_laws.specs.ChildLists.{ids_without}
use Rattle.page_laws.specs.Limits.{own_text_size}
use Rattle.page_model.specs.Document.{AreDistinct, IsAmong, Node, by_itself, children_of, element, find, id_of, ids, ids_of, text}
use Rattle.page_model.specs.Edits.{tree_after_remove}
use Rattle.page_model.specs.Trees.{size}

-- the child i of x was taken from between these
pub record Detaches (c c' : Cells) (p i : ℕ) (x : Node) (xs ys : List ℕ) : Type 0 where
  pub list : ids_of (children_of x) ≡ xs ++ i ∷ ys
  pub unhooks : Unhooks c.place c'.place i (final None xs) (front ys None)
  pub body : c'.body p ≡ Some (body_with (by_itself x) (xs ++ ys) (own_text_size x))
  pub others : (j : ℕ) → (j ≡ p → ⊥) → c'.body j ≡ c.body j

size-removed : (i : ℕ) (n : Node) → own_text_size (tree_after_remove i n) ≡ own_text_size n
size-removed i (element id name attributes children) = refl
size-removed i (text id cs) = refl

by_itself-removed : (i : ℕ) (n : Node) → by_itself (tree_after_remove i n) ≡ by_itself n
by_itself-removed i (element id name attributes children) = refl
by_itself-removed i (text id cs) = refl

without-here : (i : ℕ) (xs ys : List ℕ) → AreDistinct (xs ++ i ∷ ys) → ids_without i (xs ++ i ∷ ys) ≡ xs ++ ys
without-here i [] ys d = rw (eq-eqb i i refl) (without-absent i ys d.0)
without-here i (x ∷ xs) ys d =
    rw (ne_eqb i x (λ e. d.0 (among-right x xs (i ∷ ys) (inl (sym e))))) (ap (λ (r : List ℕ). x ∷ r) (without-here i xs ys d.1))

-- those beside the child are children of x
beside : (c c' : Cells) (p i : ℕ) (x : Node) (xs ys : List ℕ) → Detaches c c' p i x xs ys → (j : ℕ) → (final None xs ≡ Some j) ⊎ (front ys None ≡ Some j) → IsAmong j (ids_of (children_of x))
beside c c' p i x xs ys w j (inl e) = subst (IsAmong j) (sym w.list) (among-left j xs (i ∷ ys) (end-among j xs e))
beside c c' p i x xs ys w j (inr e) = subst (IsAmong j) (sym w.list) (among-right j xs (i ∷ ys) (inr (front-among j ys e)))

-- children of another node stay in their places
stay : (c c' : Cells) (root x m : Node) (p i q : ℕ) (xs ys : List ℕ) → AreDistinct (ids root) → find p root ≡ Some x → find q root ≡ Some m → (q ≡ p → ⊥) → Detaches c c' p i x xs ys
    → (j : ℕ) → IsAmong j (ids_of (children_of m)) → c'.place j ≡ c.place j
stay c c' root x m p i q xs ys d fx fm ne w j a =
    let foreign : IsAmong j (ids_of (children_of x)) → ⊥ = λ b.
    ne (same_Some q p (sym (listed-parent root j q d (children-are m root q j fm a)) ∙ listed-parent root j p d (children-are x root p j fx b))) in
    w.unhooks.others j (λ e. foreign (subst (IsAmong j) (sym w.list) (among-right j xs (i ∷ ys) (inl e)))) (λ e. foreign (beside c c' p i x xs ys w j (inl e))) (λ e. foreign (beside c c' p i x xs ys w j (inr e)))

detached-other : (c c' : Cells) (root x m : Node) (p i q : ℕ) (xs ys : List ℕ) → AreDistinct (ids root) → find p root ≡ Some x → find q root ≡ Some m → (q ≡ p → ⊥) → Detaches c c' p i x xs ys
    → IsLinked c m → IsLinked c' m
detached-other c c' root x m p i q xs ys d fx fm ne w h = (
  w.others (id_of m) (λ e. ne (find-id q root m fm ∙ e)) ∙ h.0,
  chain-same c.place c'.place (id_of m) None (ids_of (children_of m)) None (stay c c' root x m p i q xs ys d fx fm ne w) h.1,
)

-- a node with the same list
same-list : (c : Cells) (n m : Node) → id_of n ≡ id_of m → by_itself n ≡ by_itself m → own_text_size n ≡ own_text_size m → ids_of (children_of n) ≡ ids_of (children_of m) → IsLinked c m → IsLinked c n
same-list c n m number own size children h = (
  ap c.body number ∙ (h.0 ∙ ap Some (λ q. body_with (sym own q) (sym children q) (sym size q))),
  rw (number, children) h.1,
)

pub linked-detached : (c c' : Cells) (root x : Node) (p i : ℕ) (xs ys : List ℕ) → AreDistinct (ids root) → find p root ≡ Some x → Detaches c c' p i x xs ys → AreLinked c root → AreLinked c' (tree_after_remove i root)
linked-detached c c' root x p i xs ys d fx w h = λ q n f.
    let at : find q (tree_after_remove i root) ≡ option_map (λ y. tree_after_remove i y) (find q root) = find-removed i q root d (some-among q (tree_after_remove i root) n f) in
    elim (none-or-some (find q root)) [
      | inl gone ↦ absurd (none-some n (ap (option_map (λ y. tree_after_remove i y)) (sym gone) ∙ (sym at ∙ f)))
      | inr some ↦
          let m : Node = some.0 in
          let is : tree_after_remove i m ≡ n = same_Some (tree_after_remove i m) n (ap (option_map (λ y. tree_after_remove i y)) (sym some.1) ∙ (sym at ∙ f)) in
          subst (IsLinked c') is (elim (cases_Bool (q == p)) [
            | inl t ↦
                let same : x ≡ m = same_Some x m (sym fx ∙ (ap (λ (k : ℕ). find k root) (sym (eqb-true q p t)) ∙ some.1)) in
                let own : AreDistinct (xs ++ i ∷ ys) = subst AreDistinct w.list (children-distinct x (find-distinct p root x fx d)) in
                let number : p ≡ id_of x = find-id p root x fx in
                let children : ids_of (children_of (tree_after_remove i x)) ≡ xs ++ ys = children-removed i x ∙ (ap (ids_without i) w.list ∙ without-here i xs ys own) in
                let same_id : id_of (tree_after_remove i x) ≡ p = id_of-removed i x ∙ sym number in
                subst (λ (y : Node). IsLinked c' (tree_after_remove i y)) same (
                  ap c'.body same_id ∙ (w.body ∙ ap Some (λ k. body_with (sym (by_itself-removed i x) k) (sym children k) (sym (size-removed i x) k))),
                  rw (same_id, children) (chain-detached c.place c'.place p i xs ys own w.unhooks (subst (λ (zs : List ℕ). AreChained c.place p None zs None) w.list (rw number (h p x fx).1))),
                )
            | inr o ↦
                let ne : q ≡ p → ⊥ = eqb-false q p o in
                let foreign : IsAmong i (ids_of (children_of m)) → ⊥ = λ a.
                ne (same_Some q p (sym (listed-parent root i q d (children-are m root q i some.1 a)) ∙ listed-parent root i p d (children-are x root p i fx (subst (IsAmong i) (sym w.list) (among-right i xs (i ∷ ys) (inl refl)))))) in
                same-list c' (tree_after_remove i m) m (id_of-removed i m) (by_itself-removed i m) (size-removed i m) (children-removed i m ∙ without-absent i (ids_of (children_of m)) foreign)
                (detached-other c c' root x m p i q xs ys d fx some.1 ne w (h q m some.1))
          ])
    ]

-- the tree that was taken out is linked as before
pub linked-taken : (c c' : Cells) (root x m : Node) (p i : ℕ) (xs ys : List ℕ) → AreDistinct (ids root) → find p root ≡ Some x → find i root ≡ Some m → Detaches c c' p i x xs ys → AreLinked c root → AreLinked c' m
linked-taken c c' root x m p i xs ys d fx fm w h = λ q n f.
    let in_root : find q root ≡ Some n = find-within i q root m d fm (some-among q m n f) ∙ f in
    let apart : q ≡ p → ⊥ = λ e.
    let there : find p m ≡ Some x = sym (find-within i p root m d fm (subst (λ (k : ℕ). IsAmong k (ids m)) e (some-among q m n f))) ∙ fx in
    child-lower p i m x (find-distinct i root m fm d) there (subst (IsAmong i) (sym w.list) (among-right i xs (i ∷ ys) (inl refl))) (find-id i root m fm) in
    detached-other c c' root x n p i q xs ys d fx in_root apart w (h q n in_root)
