-- Why a move is refused, by ids and by slots.
use Rattle.std.proofs.Common.{Bool, None, Option, Some, [], ap, false, is_none, length, nat_lt, option_and_then, option_map, refl, sym, true, unwrap_or, ℕ, ◌+◌, ◌==◌, ◌||◌, ◌∙◌, ◌∷◌, ◌≡◌}
use Rattle.dom_arena.proofs.Builds.{map-length}
use Rattle.dom_arena.proofs.Docs.{not-found, tree-alone}
use Rattle.dom_arena.proofs.Renamed.{alone-test, child_ids-renamed, find-renamed, height-renamed, id_of-renamed, ids-renamed, is_among-renamed, level-renamed, name_of-renamed, removed-renamed}
use Rattle.dom_arena.specs.Docs.{IsDoc, Seen, document_in}
use Rattle.dom_arena.specs.Moving.{slot_document}
use Rattle.dom_arena.specs.Reading.{tree_in}
use Rattle.dom_arena.specs.Rename.{IsAlone, rename}
use Rattle.dom_arena.specs.Slots.{id_at, table_at}
use Rattle.dom_arena.specs.Stores.{Kept}
use Rattle.page_laws.proofs.Find.{among-top, find-part}
use Rattle.page_laws.proofs.FirstOf.{first-false}
use Rattle.page_laws.proofs.Options.{true-or-right}
use Rattle.page_laws.proofs.TreeAfterRemove.{among-kept}
use Rattle.page_model.specs.Document.{Node, child_ids, find, height, id_of, ids, is_among, name_at, name_of}
use Rattle.page_model.specs.DocumentCode.{top}
use Rattle.page_model.specs.Edits.{child_count, height_at, is_within, level, move_causes, tree_after_remove}
use Rattle.page_model.specs.Refusals.{Causes, first_of}
use Rattle.page_model.specs.declared.limits.TheConstants.{MAX_DEPTH}
use Rattle.page_model.specs.declared.cause.Cause.TheVariants as cause

-- ---- the causes by their tests

abbrev pub by_tests : Bool → Bool → Bool → Bool → Bool → Bool → Causes
by_tests none top plain within past deep =
    (none, cause.NoNode) ∷ (top, cause.IsRoot) ∷ (plain, cause.NotElement) ∷ (within, cause.Cycle) ∷ (past, cause.BadIndex) ∷ (deep, cause.DepthLimit) ∷ []

pub tests-top : (none top plain within past deep : Bool) → none ≡ false → top ≡ true → first_of (by_tests none top plain within past deep) ≡ Some cause.IsRoot
tests-top none top plain within past deep a b = λ j. first_of (by_tests (a j) (b j) plain within past deep)

pub tests-plain : (none top plain within past deep : Bool) → none ≡ false → top ≡ false → plain ≡ true → first_of (by_tests none top plain within past deep) ≡ Some cause.NotElement
tests-plain none top plain within past deep a b c = λ j. first_of (by_tests (a j) (b j) (c j) within past deep)

pub tests-within : (none top plain within past deep : Bool) → none ≡ false → top ≡ false → plain ≡ false → within ≡ true → first_of (by_tests none top plain within past deep) ≡ Some cause.Cycle
tests-within none top plain within past deep a b c d = λ j. first_of (by_tests (a j) (b j) (c j) (d j) past deep)

pub tests-past : (none top plain within past deep : Bool) → none ≡ false → top ≡ false → plain ≡ false → within ≡ false → past ≡ true → first_of (by_tests none top plain within past deep) ≡ Some cause.BadIndex
tests-past none top plain within past deep a b c d e = λ j. first_of (by_tests (a j) (b j) (c j) (d j) (e j) deep)

pub tests-last : (none top plain within past deep : Bool) → none ≡ false → top ≡ false → plain ≡ false → within ≡ false → past ≡ false → first_of (by_tests none top plain within past deep) ≡ first_of ((deep, cause.DepthLimit) ∷ [])
tests-last none top plain within past deep a b c d e = λ j. first_of (by_tests (a j) (b j) (c j) (d j) (e j) deep)

-- where none holds
pub record Passes (none top plain within past deep : Bool) : Type 0 where
  pub there : none ≡ false
  pub inner : top ≡ false
  pub element : plain ≡ false
  pub outside : within ≡ false
  pub index : past ≡ false
  pub low : deep ≡ false

pub passes : (none top plain within past deep : Bool) → first_of (by_tests none top plain within past deep) ≡ None → Passes none top plain within past deep
passes none top plain within past deep h =
    let e : Causes = (deep, cause.DepthLimit) ∷ [] in
    let d : Causes = (past, cause.BadIndex) ∷ e in
    let c : Causes = (within, cause.Cycle) ∷ d in
    let b : Causes = (plain, cause.NotElement) ∷ c in
    let a : Causes = (top, cause.IsRoot) ∷ b in
    let p = first-false none cause.NoNode a h in
    let q = first-false top cause.IsRoot b p.1 in
    let r = first-false plain cause.NotElement c q.1 in
    let s = first-false within cause.Cycle d r.1 in
    let t = first-false past cause.BadIndex e s.1 in
    let u = first-false deep cause.DepthLimit [] t.1 in
    record { there = p.0; inner = q.0; element = r.0; outside = s.0; index = t.0; low = u.0 }

-- ---- the causes under other ids

none-map : (f : ℕ → ℕ) (o : Option Node) → is_none (option_map (rename f) o) ≡ is_none o
none-map f None = refl
none-map f (Some n) = refl

name-map : (f : ℕ → ℕ) (o : Option Node) → option_and_then name_of (option_map (rename f) o) ≡ option_and_then name_of o
name-map f None = refl
name-map f (Some n) = name_of-renamed f n

height-map : (f : ℕ → ℕ) (o : Option Node) → option_map height (option_map (rename f) o) ≡ option_map height o
height-map f None = refl
height-map f (Some n) = ap Some (height-renamed f n)

within-renamed : (f : ℕ → ℕ) (y q : ℕ) (n : Node) → IsAlone f y (ids n) → IsAlone f q (ids n) → is_within (f y) (f q) (rename f n) ≡ is_within y q n
within-renamed f y q n ay aq =
    ap (λ o. unwrap_or (option_map (λ (x : Node). is_among (f q) (ids x)) o) false) (find-renamed f y n ay) ∙ by-found (find y n) refl
  where
    by-found : (o : Option Node) → find y n ≡ o
        → unwrap_or (option_map (λ (x : Node). is_among (f q) (ids x)) (option_map (rename f) o)) false ≡ unwrap_or (option_map (λ (x : Node). is_among q (ids x)) o) false
    by-found None e = refl
    by-found (Some m) e = ap (is_among (f q)) (ids-renamed f m) ∙ is_among-renamed f q (ids m) (λ z a. aq z (find-part y n m z e a))

count-renamed : (f : ℕ → ℕ) (y q : ℕ) (n : Node) → IsAlone f y (ids n) → IsAlone f q (ids n)
    → child_count (f q) (tree_after_remove (f y) (rename f n)) ≡ child_count q (tree_after_remove y n)
count-renamed f y q n ay aq =
    ap (child_count (f q)) (sym (removed-renamed f y n ay))
    ∙ (ap length (child_ids-renamed f q (tree_after_remove y n) (λ z a. aq z (among-kept y z n a))) ∙ map-length f (child_ids q (tree_after_remove y n)))

pub causes-renamed : (f : ℕ → ℕ) (y q index next : ℕ) (n : Node) → IsAlone f y (ids n) → IsAlone f q (ids n)
    → move_causes (f y) (f q) index (record { root = rename f n; next_id = next }) ≡ move_causes y q index (record { root = n; next_id = next })
causes-renamed f y q index next n ay aq =
    let there_y : is_none (find (f y) (rename f n)) ≡ is_none (find y n) = ap is_none (find-renamed f y n ay) ∙ none-map f (find y n) in
    let there_q : is_none (find (f q) (rename f n)) ≡ is_none (find q n) = ap is_none (find-renamed f q n aq) ∙ none-map f (find q n) in
    let top : (f y == id_of (rename f n)) ≡ (y == id_of n) = ap (λ z. f y == z) (id_of-renamed f n) ∙ alone-test f y (id_of n) (ay (id_of n) (among-top n)) in
    let plain : is_none (name_at (f q) (rename f n)) ≡ is_none (name_at q n) = ap is_none (ap (option_and_then name_of) (find-renamed f q n aq) ∙ name-map f (find q n)) in
    let high : height_at (f y) (rename f n) ≡ height_at y n = ap (λ o. unwrap_or (option_map height o) 0) (find-renamed f y n ay) ∙ ap (λ o. unwrap_or o 0) (height-map f (find y n)) in
    let at : unwrap_or (level (f q) (rename f n)) 0 ≡ unwrap_or (level q n) 0 = ap (λ o. unwrap_or o 0) (level-renamed f q n aq) in
    λ j. by_tests (there_y j || there_q j) (top j) (plain j) (within-renamed f y q n ay aq j) (nat_lt (count-renamed f y q n ay aq j) index) (nat_lt MAX_DEPTH (at j + high j))

-- the causes by ids are those by slots
pub causes-by-slot : (k : Kept) (x i p y q index : ℕ) → IsDoc k x → table_at k.table i ≡ Some y → table_at k.table p ≡ Some q
    → move_causes i p index (document_in k x) ≡ move_causes y q index (slot_document k x)
causes-by-slot k x i p y q index d e g =
    let n : Node = tree_in k.slots x in
    let iy = d.tree.store.found i y e in
    let pq = d.tree.store.found p q g in
    (λ j. move_causes (sym iy.1 j) (sym pq.1 j) index (document_in k x))
    ∙ causes-renamed (id_at k.slots) y q index (length k.table) n (tree-alone k x n d.tree y (d.tree.only y iy.0)) (tree-alone k x n d.tree q (d.tree.only q pq.0))

-- what a `Doc` is seen as has the causes that the slots have
pub causes-seen : (k : Kept) (x i p y q index : ℕ) (s : Seen) → record { document = document_in k x } ≡ s → IsDoc k x → table_at k.table i ≡ Some y → table_at k.table p ≡ Some q
    → first_of (move_causes i p index s.document) ≡ first_of (move_causes y q index (slot_document k x))
causes-seen k x i p y q index s is d e g =
    ap (λ (t : Seen). first_of (move_causes i p index t.document)) (sym is) ∙ ap first_of (causes-by-slot k x i p y q index d e g)

pub move-no-node : (k : Kept) (x i p index : ℕ) → IsDoc k x → table_at k.table i ≡ None → first_of (move_causes i p index (document_in k x)) ≡ Some cause.NoNode
move-no-node k x i p index d e =
    let root : Node = (document_in k x).root in
    let none : is_none (find i root) ≡ true = ap is_none (not-found k x (tree_in k.slots x) i d.tree e) in
    λ j. first_of (by_tests (none j || is_none (find p root)) (i == id_of root) (is_none (name_at p root)) (is_within i p root) (nat_lt (child_count p (tree_after_remove i root)) index)
    (nat_lt MAX_DEPTH (unwrap_or (level p root) 0 + height_at i root)))

pub move-no-parent : (k : Kept) (x i p index : ℕ) → IsDoc k x → table_at k.table p ≡ None → first_of (move_causes i p index (document_in k x)) ≡ Some cause.NoNode
move-no-parent k x i p index d e =
    let root : Node = (document_in k x).root in
    let none : (is_none (find i root) || is_none (find p root)) ≡ true = true-or-right (is_none (find i root)) (is_none (find p root)) (ap is_none (not-found k x (tree_in k.slots x) p d.tree e)) in
    λ j. first_of (by_tests (none j) (i == id_of root) (is_none (name_at p root)) (is_within i p root) (nat_lt (child_count p (tree_after_remove i root)) index)
    (nat_lt MAX_DEPTH (unwrap_or (level p root) 0 + height_at i root)))
