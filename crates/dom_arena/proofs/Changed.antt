-- A tree of slots in which one node has other content.
use Rattle.page_laws.proofs.ChangedLimits.{limits-changed}
use Rattle.std.proofs.Common.{List, None, Some, [], ap, arith, eq-eqb, eqb-true, inl, inr, is_some, length, ne_eqb, option_and_then, option_map, refl, slice_get, subst, sym, ℕ, ◌==◌, ◌∙◌, ◌≡◌, ◌≤◌}
use Rattle.std.proofs.lemmas.Bool.{cases_Bool, eqb-false}
use Rattle.std.proofs.lemmas.Option.{none-some, same_Some}
use Rattle.page_laws.proofs.Find.{find-id}
use Rattle.page_laws.proofs.Options.{none-or-some}
use Rattle.page_laws.proofs.TreeAfterChange.{by_itself-other, children-changed, find-changed, id_of-changed, ids-changed, name_of-changed, text_size-changed}
use Rattle.page_laws.specs.Limits.{KeepsGrammar, KeepsLimits, own_text_size}
use Rattle.page_model.specs.Document.{AreDistinct, Document, IsAmong, Node, by_itself, children_of, element, find, first, id_of, ids, ids_of, text, without_ids}
use Rattle.page_model.specs.Edits.{tree_after_change}
use Rattle.page_model.specs.Trees.{Attribute, Text, text_size}
use Rattle.page_model.specs.declared.limits.TheConstants.{MAX_TEXTS}
use Rattle.dom_arena.proofs.Chains.{chain-same}
use Rattle.dom_arena.proofs.Docs.{tree-alone}
use Rattle.dom_arena.proofs.Kept.{chain-dead, chain-same-contents, live-slot-same}
use Rattle.dom_arena.proofs.Loads.{document_of, tree-doc}
use Rattle.dom_arena.proofs.Renamed.{changed-renamed, rename-same, without-renamed}
use Rattle.dom_arena.proofs.Written.{body-elsewhere, body-parts, get-changed-here, get-changed-other, id-changed, length-changed, place-changed}
use Rattle.dom_arena.specs.Cells.{AreLinked, Cells, IsLinked, body_of, final}
use Rattle.dom_arena.specs.Contents.{kept_changed, total_with, with_content}
use Rattle.dom_arena.specs.Docs.{HoldsTree, IsDoc, document_in}
use Rattle.dom_arena.specs.Reading.{tree_in}
use Rattle.dom_arena.specs.Rename.{rename}
use Rattle.dom_arena.specs.Slots.{IsLive, body_at, body_in, cells_of, id_at, own_in, table_at, target}
use Rattle.dom_arena.specs.Stores.{IsStore, Kept}
use Rattle.dom_arena.specs.Writes.{changed}
use Rattle.dom_arena.specs.declared.slot.Content.{Content}
use Rattle.dom_arena.specs.declared.slot.Slot.{Slot}

-- ---- links

size-other : (y : ℕ) (a : List Attribute → List Attribute) (t : Text → Text) (n : Node) → (y ≡ id_of n → ⊥) → own_text_size (tree_after_change y a t n) ≡ own_text_size n
size-other y a t (element id name attributes children) other = rw (ne_eqb y id other) refl
size-other y a t (text id cs) other = rw (ne_eqb y id other) refl

-- a node that is another than y has the same body
body-other : (y : ℕ) (a : List Attribute → List Attribute) (t : Text → Text) (n : Node) → (y ≡ id_of n → ⊥) → body_of (tree_after_change y a t n) ≡ body_of n
body-other y a t n other =
    let own : by_itself (tree_after_change y a t n) ≡ by_itself n = by_itself-other y a t n other in
    let list : ids_of (children_of (tree_after_change y a t n)) ≡ ids_of (children_of n) = children-changed y a t n in
    let points : own_text_size (tree_after_change y a t n) ≡ own_text_size n = size-other y a t n other in
    rw (own, list, points) refl

-- a node with this body, where no place has changed
relinked : (c c' : Cells) (y : ℕ) (a : List Attribute → List Attribute) (t : Text → Text) (n : Node) → ((j : ℕ) → c'.place j ≡ c.place j)
    → c'.body (id_of n) ≡ Some (body_of (tree_after_change y a t n)) → IsLinked c n → IsLinked c' (tree_after_change y a t n)
relinked c c' y a t n places body h =
    let same_id : id_of (tree_after_change y a t n) ≡ id_of n = id_of-changed y a t n in
    let list : ids_of (children_of (tree_after_change y a t n)) ≡ ids_of (children_of n) = children-changed y a t n in (
      ap c'.body same_id ∙ body,
      rw (same_id, list) (chain-same c.place c'.place (id_of n) None (ids_of (children_of n)) None (λ j _. places j) h.1),
    )

pub linked-changed : (c c' : Cells) (root m : Node) (y : ℕ) (a : List Attribute → List Attribute) (t : Text → Text) → find y root ≡ Some m → ((j : ℕ) → c'.place j ≡ c.place j)
    → c'.body y ≡ Some (body_of (tree_after_change y a t m)) → ((j : ℕ) → (j ≡ y → ⊥) → c'.body j ≡ c.body j) → AreLinked c root → AreLinked c' (tree_after_change y a t root)
linked-changed c c' root m y a t fm places body others h = λ q n f.
    let at : find q (tree_after_change y a t root) ≡ option_map (λ z. tree_after_change y a t z) (find q root) = find-changed y q a t root in
    elim (none-or-some (find q root)) [
      | inl gone ↦ absurd (none-some n (ap (option_map (λ z. tree_after_change y a t z)) (sym gone) ∙ (sym at ∙ f)))
      | inr some ↦
          let is : tree_after_change y a t some.0 ≡ n = same_Some (tree_after_change y a t some.0) n (ap (option_map (λ z. tree_after_change y a t z)) (sym some.1) ∙ (sym at ∙ f)) in
          let number : q ≡ id_of some.0 = find-id q root some.0 some.1 in
          subst (IsLinked c') is (relinked c c' y a t some.0 places (elim (cases_Bool (q == y)) [
            | inl e ↦
                let same : m ≡ some.0 = same_Some m some.0 (sym fm ∙ (ap (λ (z : ℕ). find z root) (sym (eqb-true q y e)) ∙ some.1)) in
                ap c'.body (sym number ∙ eqb-true q y e) ∙ (body ∙ ap (λ (z : Node). Some (body_of (tree_after_change y a t z))) same)
            | inr o ↦
                let ne : q ≡ y → ⊥ = eqb-false q y o in
                others (id_of some.0) (λ e. ne (number ∙ e)) ∙ ((h q some.0 some.1).0 ∙ ap Some (sym (body-other y a t some.0 (λ e. ne (number ∙ sym e)))))
          ]) (h q some.0 some.1))
    ]

-- ---- the store

pub store-changed : (k : Kept) (y : ℕ) (f : Content → Content) (size : ℕ) → IsStore k → IsLive k.slots y → IsLive (changed y (with_content f size) k.slots) y → IsStore (kept_changed k y f size)
store-changed k y f size s old new =
    let slots : List Slot = changed y (with_content f size) k.slots in
    let long : length slots ≡ length k.slots = length-changed y (with_content f size) k.slots in
    let other : (x : ℕ) → (x ≡ y → ⊥) → slice_get slots x ≡ slice_get k.slots x = λ x ne. get-changed-other y x (with_content f size) k.slots ne in
    let same_id : (x : ℕ) → id_at slots x ≡ id_at k.slots x = λ x. id-changed y x (with_content f size) k.slots (λ _. refl) in
    let to : (x : ℕ) → IsLive k.slots x → IsLive slots x = λ x l. elim (cases_Bool (x == y)) [
      | inl e ↦ subst (IsLive slots) (sym (eqb-true x y e)) new
      | inr o ↦ live-slot-same k.slots slots x (other x (eqb-false x y o)) l
    ] in
    let from : (x : ℕ) → IsLive slots x → IsLive k.slots x = λ x l. elim (cases_Bool (x == y)) [
      | inl e ↦ subst (IsLive k.slots) (sym (eqb-true x y e)) old
      | inr o ↦ live-slot-same slots k.slots x (sym (other x (eqb-false x y o))) l
    ] in
    let out : (x : ℕ) → IsAmong x s.free → x ≡ y → ⊥ = λ x a e. chain-dead k.slots (target k.free) s.free x s.chain a (subst (IsLive k.slots) (sym e) old) in
    record {
      free = s.free;
      chain = chain-same-contents k.slots slots (target k.free) s.free (λ x a. ap (option_map (λ (z : Slot). z.content)) (other x (out x a))) s.chain;
      once = s.once;
      count = s.count ∙ sym long;
      all = λ x w. elim (s.all x (omega (arith, w, long))) [
        | inl l ↦ inl (to x l)
        | inr a ↦ inr a
      ];
      listed = λ x l. ap (table_at k.table) (same_id x) ∙ s.listed x (from x l);
      found = λ i x e. let was = s.found i x e in (to x was.0, same_id x ∙ was.1);
      few = omega (arith, s.few, long);
    }

-- ---- the tree

-- the node with an id, its slot, and what an edit makes of its content
pub record Edited (k : Kept) (x i y : ℕ) (f : Content → Content) (points : ℕ) (a : List Attribute → List Attribute) (t : Text → Text) (m : Node) (s : Slot) : Type 0 where
  pub doc : IsDoc k x
  pub at : table_at k.table i ≡ Some y
  pub found : find y (tree_in k.slots x) ≡ Some m
  pub slot : slice_get k.slots y ≡ Some s
  pub body : body_in y s ≡ Some (body_of m)
  pub own : own_in y (f s.content) ≡ Some (by_itself (tree_after_change y a t m))
  pub size : points ≡ own_text_size (tree_after_change y a t m)

-- a node has no more code points by itself than the whole tree
none-own : (y : ℕ) (m : Node) → y ≡ id_of m → own_text_size (tree_after_change y (λ _. []) (λ _. []) m) ≡ 0
none-own y (element id name attributes children) e = rw (eq-eqb y id e) refl
none-own y (text id cs) e = rw (eq-eqb y id e) refl

part-size : (y : ℕ) (n m : Node) → AreDistinct (ids n) → find y n ≡ Some m → own_text_size m ≤ text_size (without_ids n)
part-size y n m d f =
    let emptied = text_size-changed y (λ _. []) (λ _. []) n m d f in
    let none : own_text_size (tree_after_change y (λ _. []) (λ _. []) m) ≡ 0 = none-own y m (find-id y n m f) in
    omega (arith, emptied, none)

body-edited : (k : Kept) (x i y : ℕ) (f : Content → Content) (points : ℕ) (a : List Attribute → List Attribute) (t : Text → Text) (m : Node) (s : Slot) → Edited k x i y f points a t m s
    → body_at (changed y (with_content f points) k.slots) y ≡ Some (body_of (tree_after_change y a t m))
body-edited k x i y f points a t m s e =
    let slots : List Slot = changed y (with_content f points) k.slots in
    let got : slice_get slots y ≡ Some (with_content f points s) = get-changed-here y (with_content f points) k.slots ∙ ap (option_map (with_content f points)) e.slot in
    let parts = body-parts y s (body_of m) e.body in
    let list : ids_of (children_of (tree_after_change y a t m)) ≡ ids_of (children_of m) = children-changed y a t m in
    ap (option_and_then (body_in y)) got
    ∙ (ap (option_map (λ own. record { own = own; first = target s.first; last = target s.last; count = s.children; size = points })) e.own
    ∙ λ j. Some (record {
      own = by_itself (tree_after_change y a t m);
      first = (parts.1 ∙ sym (ap first list)) j;
      last = (parts.2 ∙ sym (ap (final None) list)) j;
      count = (parts.3 ∙ sym (ap length list)) j;
      size = e.size j;
    }))

-- the code points of all texts after the edit
pub total-edited : (k : Kept) (x i y : ℕ) (f : Content → Content) (points : ℕ) (a : List Attribute → List Attribute) (t : Text → Text) (m : Node) (s : Slot) → Edited k x i y f points a t m s
    → total_with k.code_points (Some s) points ≡ text_size (without_ids (tree_after_change y a t (tree_in k.slots x)))
total-edited k x i y f points a t m s e =
    let n : Node = tree_in k.slots x in
    let after = text_size-changed y a t n m e.doc.tree.distinct e.found in
    let part = part-size y n m e.doc.tree.distinct e.found in
    let own : s.size ≡ own_text_size m = (body-parts y s (body_of m) e.body).4 in
    omega (arith, after, part, own, e.size, e.doc.tree.code_points)

holds-edited : (k : Kept) (x i y : ℕ) (f : Content → Content) (points : ℕ) (a : List Attribute → List Attribute) (t : Text → Text) (m : Node) (s : Slot) → Edited k x i y f points a t m s
    → HoldsTree (kept_changed k y f points) x (tree_after_change y a t (tree_in k.slots x))
holds-edited k x i y f points a t m s e =
    let n : Node = tree_in k.slots x in
    let h : HoldsTree k x n = e.doc.tree in
    let slots : List Slot = changed y (with_content f points) k.slots in
    let body : body_at slots y ≡ Some (body_of (tree_after_change y a t m)) = body-edited k x i y f points a t m s e in
    let live : IsLive slots y = ap is_some body in
    let same_ids : ids (tree_after_change y a t n) ≡ ids n = ids-changed y a t n in
    let was : (z : ℕ) → IsLive slots z → IsLive k.slots z = λ z l. elim (cases_Bool (z == y)) [
      | inl q ↦ subst (IsLive k.slots) (sym (eqb-true z y q)) (h.store.found i y e.at).0
      | inr o ↦ live-slot-same slots k.slots z (sym (get-changed-other y z (with_content f points) k.slots (eqb-false z y o))) l
    ] in
    record {
      store = store-changed k y f points h.store (h.store.found i y e.at).0 live;
      linked = linked-changed (cells_of k.slots) (cells_of slots) n m y a t e.found (λ j. place-changed y j (with_content f points) k.slots (λ _. refl)) body
          (λ j ne. body-elsewhere y j (with_content f points) k.slots ne) h.linked;
      distinct = subst AreDistinct (sym same_ids) h.distinct;
      at = id_of-changed y a t n ∙ h.at;
      top = place-changed y x (with_content f points) k.slots (λ _. refl) ∙ h.top;
      element = ap is_some (name_of-changed y a t n) ∙ h.element;
      only = λ z l. subst (IsAmong z) (sym same_ids) (h.only z (was z l));
      live = h.live ∙ ap length (sym same_ids);
      code_points = ap (λ o. total_with k.code_points o points) e.slot ∙ total-edited k x i y f points a t m s e;
    }

-- the tree under its ids
root-edited : (k : Kept) (x i y : ℕ) (f : Content → Content) (points : ℕ) (a : List Attribute → List Attribute) (t : Text → Text) (m : Node) (s : Slot) → Edited k x i y f points a t m s
    → rename (id_at k.slots) (tree_after_change y a t (tree_in k.slots x)) ≡ tree_after_change i a t (document_in k x).root
root-edited k x i y f points a t m s e =
    let n : Node = tree_in k.slots x in
    let was = e.doc.tree.store.found i y e.at in
    changed-renamed (id_at k.slots) y a t n (tree-alone k x n e.doc.tree y (e.doc.tree.only y was.0)) ∙ ap (λ (j : ℕ). tree_after_change j a t (rename (id_at k.slots) n)) was.1

pub points-edited : (k : Kept) (x i y : ℕ) (f : Content → Content) (points : ℕ) (a : List Attribute → List Attribute) (t : Text → Text) (m : Node) (s : Slot) → Edited k x i y f points a t m s
    → total_with k.code_points (Some s) points ≡ text_size (without_ids (tree_after_change i a t (document_in k x).root))
points-edited k x i y f points a t m s e =
    total-edited k x i y f points a t m s e
    ∙ ap text_size (sym (without-renamed (id_at k.slots) (tree_after_change y a t (tree_in k.slots x))) ∙ ap without_ids (root-edited k x i y f points a t m s e))

-- the document after the edit
pub doc-edited : (k : Kept) (x i y : ℕ) (f : Content → Content) (points : ℕ) (a : List Attribute → List Attribute) (t : Text → Text) (m : Node) (s : Slot) → Edited k x i y f points a t m s
    → KeepsGrammar (tree_after_change i a t (document_in k x).root) → text_size (without_ids (tree_after_change i a t (document_in k x).root)) ≤ MAX_TEXTS
    → (document_in (kept_changed k y f points) x ≡ record { root = tree_after_change i a t (document_in k x).root; next_id = (document_in k x).next_id }) × IsDoc (kept_changed k y f points) x
doc-edited k x i y f points a t m s e grammar fits =
    let n : Node = tree_after_change y a t (tree_in k.slots x) in
    let now : Kept = kept_changed k y f points in
    let d : Document = record { root = tree_after_change i a t (document_in k x).root; next_id = (document_in k x).next_id } in
    let root : rename (id_at now.slots) n ≡ d.root = rename-same (id_at now.slots) (id_at k.slots) n (λ z _. id-changed y z (with_content f points) k.slots (λ _. refl)) ∙ root-edited k x i y f points a t m s e in
    let same : document_of now n ≡ d = λ j. record { root = root j; next_id = length k.table } in
    let is = tree-doc now x n (holds-edited k x i y f points a t m s e) (subst KeepsLimits (sym same) (limits-changed (document_in k x) i a t e.doc.limits grammar fits)) in
    (is.0 ∙ same, is.1)

-- where the node has no more code points than before, no limit on texts is broken
pub smaller-edited : (k : Kept) (x i y : ℕ) (f : Content → Content) (points : ℕ) (a : List Attribute → List Attribute) (t : Text → Text) (m : Node) (s : Slot) → Edited k x i y f points a t m s
    → points ≤ s.size → text_size (without_ids (tree_after_change i a t (document_in k x).root)) ≤ MAX_TEXTS
smaller-edited k x i y f points a t m s e less =
    let n : Node = tree_in k.slots x in
    let after = text_size-changed y a t n m e.doc.tree.distinct e.found in
    let own : s.size ≡ own_text_size m = (body-parts y s (body_of m) e.body).4 in
    let same = total-edited k x i y f points a t m s e in
    let all = points-edited k x i y f points a t m s e in
    let before : text_size (without_ids (document_in k x).root) ≡ text_size (without_ids n) = ap text_size (without-renamed (id_at k.slots) n) in
    omega (arith, after, own, same, all, before, e.size, less, e.doc.limits.code_points)
