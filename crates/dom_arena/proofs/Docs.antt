-- What holds of a document in slots.
use Rattle.std.proofs.Common.{Bool, List, None, Option, Some, [], ap, eq-eqb, false, inl, inr, is_some, length, map, option_and_then, option_map, refl, slice_get, subst, sym, true, unwrap_or, ℕ, ◌<◌, ◌==◌, ◌||◌, ◌∙◌, ◌∷◌, ◌≡◌}
use Rattle.std.proofs.lemmas.Bool.{cases_Bool, false≢true}
use Rattle.std.proofs.lemmas.Option.{none-some, same_Some}
use Rattle.dom_arena.proofs.Kept.{alone-live, id-given}
use Rattle.dom_arena.proofs.Readings.{place-child}
use Rattle.dom_arena.proofs.Releases.{linked-live, slot-of-body}
use Rattle.dom_arena.proofs.Renamed.{after-renamed, before-renamed, children-renamed, find-renamed, first-renamed, id_of-renamed, ids-renamed, name_of-renamed, parent_in-renamed, parent_of-renamed}
use Rattle.dom_arena.proofs.Written.{body-parts}
use Rattle.dom_arena.specs.Cells.{Place, body_of}
use Rattle.dom_arena.specs.Docs.{HoldsTree, IsDoc, IsDocument, document_in}
use Rattle.dom_arena.specs.Reading.{tree_in}
use Rattle.dom_arena.specs.Rename.{IsAlone, rename}
use Rattle.dom_arena.specs.Slots.{IsLive, attributes_in, attributes_in_slot, body_at, body_in, cells_of, first_link, id_at, name_in, next_link, own_in, place_at, place_in, prev_link, table_at, target, text_in, up_link}
use Rattle.dom_arena.specs.Stores.{Kept, slot_by_id}
use Rattle.page_laws.proofs.Find.{among-find, find-id, some-among}
use Rattle.page_laws.proofs.IsAmong.{among-split}
use Rattle.page_laws.proofs.Options.{none-or-some, some-is}
use Rattle.page_laws.proofs.ParentOf.{found-parent, parent-absent, parent-among, parent-found}
use Rattle.page_laws.specs.Ids.{HasGivenIds}
use Rattle.page_model.specs.Document.{AreDistinct, IsAmong, Node, Nodes, after, all_ids, attributes_at, attributes_of, before, by_itself, children_of, element, find, first, first_child_of, id_of, ids, ids_of, is_among, name_at, name_of, next_of, no_nodes, node, or_else, parent_below, parent_in, parent_of, prev_of, text, text_at, text_of}
use Rattle.dom_arena.specs.declared.link.Link.{Link}
use Rattle.dom_arena.specs.declared.slot.Content.{Content}
use Rattle.dom_arena.specs.declared.slot.Content.TheVariants.{Chars, Element, Free}
use Rattle.dom_arena.specs.declared.slot.Slot.{Slot}

-- ---- ids

map-found : (f : ℕ → ℕ) (z : ℕ) (xs : List ℕ) → IsAmong z (map f xs) → (y : ℕ) × (IsAmong y xs × (z ≡ f y))
map-found f z [] h = absurd h
map-found f z (x ∷ xs) (inl e) = (x, (inl refl, e))
map-found f z (x ∷ xs) (inr h) = let r = map-found f z xs h in (r.0, (inr r.1.0, r.1.1))

distinct-map : (f : ℕ → ℕ) (xs : List ℕ) → AreDistinct xs → ((x : ℕ) → IsAmong x xs → IsAlone f x xs) → AreDistinct (map f xs)
distinct-map f [] d a = tt
distinct-map f (x ∷ xs) d a = (
  λ h.
      let y = map-found f (f x) xs h in
      d.0 (subst (λ (z : ℕ). IsAmong z xs) (a x (inl refl) y.0 (inr y.1.0) (sym y.1.1)) y.1.0),
  distinct-map f xs d.1 (λ z h w k e. a z (inr h) w (inr k) e),
)

-- the nodes of the tree live
pub tree-live : (k : Kept) (x : ℕ) (n : Node) → HoldsTree k x n → (y : ℕ) → IsAmong y (ids n) → IsLive k.slots y
tree-live k x n h y a = linked-live k.slots n y h.linked a

-- no two nodes have one id
pub tree-alone : (k : Kept) (x : ℕ) (n : Node) → HoldsTree k x n → (y : ℕ) → IsAmong y (ids n) → IsAlone (id_at k.slots) y (ids n)
tree-alone k x n h y a = alone-live k y (ids n) h.store (tree-live k x n h y a) (tree-live k x n h)

given-ids : (k : Kept) (x : ℕ) (n : Node) → HoldsTree k x n → HasGivenIds (record { root = rename (id_at k.slots) n; next_id = length k.table })
given-ids k x n h =
    let f : ℕ → ℕ = id_at k.slots in
    let same : ids (rename f n) ≡ map f (ids n) = ids-renamed f n in (
      subst AreDistinct (sym same) (distinct-map f (ids n) h.distinct (tree-alone k x n h)),
      λ i a.
          let y = map-found f i (ids n) (subst (IsAmong i) same a) in
          subst (λ (j : ℕ). j < length k.table) (sym y.1.1) (id-given k y.0 h.store (tree-live k x n h y.0 y.1.0)),
    )

pub doc-facts : (k : Kept) (x : ℕ) → IsDoc k x → IsDocument (document_in k x)
doc-facts k x d = record {
  element = ap is_some (name_of-renamed (id_at k.slots) (tree_in k.slots x)) ∙ d.tree.element;
  ids = given-ids k x (tree_in k.slots x) d.tree;
  limits = d.limits;
}

-- ---- the node with an id

-- an id that the table leads nowhere from is the id of no node
pub not-found : (k : Kept) (x : ℕ) (n : Node) (i : ℕ) → HoldsTree k x n → table_at k.table i ≡ None → find i (rename (id_at k.slots) n) ≡ None
not-found k x n i h e = elim (none-or-some (find i (rename (id_at k.slots) n))) [
  | inl none ↦ none
  | inr some ↦
      let f : ℕ → ℕ = id_at k.slots in
      let a : IsAmong i (map f (ids n)) = subst (IsAmong i) (ids-renamed f n) (some-among i (rename f n) some.0 some.1) in
      let y = map-found f i (ids n) a in
      let there : table_at k.table (f y.0) ≡ Some y.0 = h.store.listed y.0 (tree-live k x n h y.0 y.1.0) in
      absurd (none-some y.0 (sym e ∙ (ap (table_at k.table) y.1.1 ∙ there)))
]

pub found-by : (k : Kept) (x : ℕ) (n : Node) (i y : ℕ) → HoldsTree k x n → table_at k.table i ≡ Some y → find i (rename (id_at k.slots) n) ≡ option_map (rename (id_at k.slots)) (find y n)
found-by k x n i y h e =
    let f : ℕ → ℕ = id_at k.slots in
    let is = h.store.found i y e in
    ap (λ (j : ℕ). find j (rename f n)) (sym is.1) ∙ find-renamed f y n (tree-alone k x n h y (h.only y is.0))

-- the node with an id is the node in the slot that the table leads to
pub find-by-table : (k : Kept) (x : ℕ) (n : Node) (i : ℕ) → HoldsTree k x n
    → find i (rename (id_at k.slots) n) ≡ option_map (rename (id_at k.slots)) (option_and_then (λ (y : ℕ). find y n) (table_at k.table i))
find-by-table k x n i h = elim (none-or-some (table_at k.table i)) [
  | inl none ↦ not-found k x n i h none ∙ sym (ap (λ o. option_map (rename (id_at k.slots)) (option_and_then (λ (y : ℕ). find y n) o)) none)
  | inr some ↦ found-by k x n i some.0 h some.1 ∙ sym (ap (λ o. option_map (rename (id_at k.slots)) (option_and_then (λ (y : ℕ). find y n) o)) some.1)
]

-- the node in a live slot
pub slot-node : (k : Kept) (x : ℕ) (n : Node) (y : ℕ) → HoldsTree k x n → IsLive k.slots y → (m : Node) × ((find y n ≡ Some m) × (body_at k.slots y ≡ Some (body_of m)))
slot-node k x n y h l =
    let m = some-is (find y n) (among-find y n (h.only y l)) in
    let e : y ≡ id_of m.0 = find-id y n m.0 m.1 in
    (m.0, (m.1, ap (body_at k.slots) e ∙ (h.linked y m.0 m.1).0))

-- the slot of an id, and the node in it
pub slot-found : (k : Kept) (x : ℕ) (n : Node) (i y : ℕ) → HoldsTree k x n → table_at k.table i ≡ Some y
    → (m : Node) × ((s : Slot) × ((find i (rename (id_at k.slots) n) ≡ Some (rename (id_at k.slots) m)) × ((slot_by_id k i ≡ Some s) × (body_in y s ≡ Some (body_of m)))))
slot-found k x n i y h e =
    let m = slot-node k x n y h (h.store.found i y e).0 in
    let s = slot-of-body k.slots y (body_of m.0) m.1.1 in
    (m.0, (s.0, (found-by k x n i y h e ∙ ap (option_map (rename (id_at k.slots))) m.1.0, (ap (option_and_then (slice_get k.slots)) e ∙ s.1, s.2))))

-- ---- what is read of a slot is what is read of its node

read-slot : {Y : Type 0} (k : Kept) (x : ℕ) (n : Node) (i : ℕ) (read : Option Slot → Y) (of : Option Node → Y) → HoldsTree k x n → read None ≡ of None
    → ((y : ℕ) (m : Node) (s : Slot) → body_in y s ≡ Some (body_of m) → read (Some s) ≡ of (Some (rename (id_at k.slots) m)))
    → read (slot_by_id k i) ≡ of (find i (rename (id_at k.slots) n))
read-slot k x n i read of h none some = elim (none-or-some (table_at k.table i)) [
  | inl e ↦ ap read (ap (option_and_then (slice_get k.slots)) e) ∙ (none ∙ sym (ap of (not-found k x n i h e)))
  | inr e ↦
      let g = slot-found k x n i e.0 h e.1 in
      ap read g.1.1.1.0 ∙ (some e.0 g.0 g.1.0 g.1.1.1.1 ∙ sym (ap of g.1.1.0))
]

pub read-live : (k : Kept) (x i : ℕ) → IsDoc k x → is_some (slot_by_id k i) ≡ is_some (find i (document_in k x).root)
read-live k x i d = read-slot k x (tree_in k.slots x) i is_some is_some d.tree refl (λ y m s b. refl)

name-itself : (m : Node) → name_of (by_itself m) ≡ name_of m
name-itself (element id name attributes children) = refl
name-itself (text id cs) = refl

text-itself : (m : Node) → text_of (by_itself m) ≡ text_of m
text-itself (element id name attributes children) = refl
text-itself (text id cs) = refl

text_of-renamed : (f : ℕ → ℕ) (m : Node) → text_of (rename f m) ≡ text_of m
text_of-renamed f (element id name attributes children) = refl
text_of-renamed f (text id cs) = refl

own-name : (y : ℕ) (c : Content) (m : Node) → own_in y c ≡ Some (by_itself m) → name_in c ≡ name_of m
own-name y (Element name attributes) m e = ap name_of (same_Some (element y name attributes no_nodes) (by_itself m) e) ∙ name-itself m
own-name y (Chars cs) m e = ap name_of (same_Some (text y cs) (by_itself m) e) ∙ name-itself m
own-name y (Free next) m e = absurd (none-some (by_itself m) e)

own-text : (y : ℕ) (c : Content) (m : Node) → own_in y c ≡ Some (by_itself m) → text_in c ≡ text_of m
own-text y (Element name attributes) m e = ap text_of (same_Some (element y name attributes no_nodes) (by_itself m) e) ∙ text-itself m
own-text y (Chars cs) m e = ap text_of (same_Some (text y cs) (by_itself m) e) ∙ text-itself m
own-text y (Free next) m e = absurd (none-some (by_itself m) e)

pub read-name : (k : Kept) (x i : ℕ) → IsDoc k x → option_and_then (λ (s : Slot). name_in s.content) (slot_by_id k i) ≡ name_at i (document_in k x).root
read-name k x i d =
    read-slot k x (tree_in k.slots x) i (option_and_then (λ (s : Slot). name_in s.content)) (option_and_then name_of) d.tree refl
    (λ y m s b. own-name y s.content m (body-parts y s (body_of m) b).0 ∙ sym (name_of-renamed (id_at k.slots) m))

pub read-text : (k : Kept) (x i : ℕ) → IsDoc k x → option_and_then (λ (s : Slot). text_in s.content) (slot_by_id k i) ≡ text_at i (document_in k x).root
read-text k x i d =
    read-slot k x (tree_in k.slots x) i (option_and_then (λ (s : Slot). text_in s.content)) (option_and_then text_of) d.tree refl
    (λ y m s b. own-text y s.content m (body-parts y s (body_of m) b).0 ∙ sym (text_of-renamed (id_at k.slots) m))

attributes-itself : (m : Node) → attributes_of (by_itself m) ≡ attributes_of m
attributes-itself (element id name attributes children) = refl
attributes-itself (text id cs) = refl

attributes_of-renamed : (f : ℕ → ℕ) (m : Node) → attributes_of (rename f m) ≡ attributes_of m
attributes_of-renamed f (element id name attributes children) = refl
attributes_of-renamed f (text id cs) = refl

own-attributes : (y : ℕ) (c : Content) (m : Node) → own_in y c ≡ Some (by_itself m) → attributes_in c ≡ attributes_of m
own-attributes y (Element name attributes) m e = ap attributes_of (same_Some (element y name attributes no_nodes) (by_itself m) e) ∙ attributes-itself m
own-attributes y (Chars cs) m e = ap attributes_of (same_Some (text y cs) (by_itself m) e) ∙ attributes-itself m
own-attributes y (Free next) m e = absurd (none-some (by_itself m) e)

pub read-attributes : (k : Kept) (x i : ℕ) → IsDoc k x → attributes_in_slot (slot_by_id k i) ≡ attributes_at i (document_in k x).root
read-attributes k x i d =
    read-slot k x (tree_in k.slots x) i attributes_in_slot (λ o. unwrap_or (option_map attributes_of o) []) d.tree refl
    (λ y m s b. own-attributes y s.content m (body-parts y s (body_of m) b).0 ∙ sym (attributes_of-renamed (id_at k.slots) m))

pub read-first : (k : Kept) (x i : ℕ) → IsDoc k x → option_map (id_at k.slots) (target (first_link (slot_by_id k i))) ≡ first_child_of i (document_in k x).root
read-first k x i d =
    let f : ℕ → ℕ = id_at k.slots in
    read-slot k x (tree_in k.slots x) i (λ o. option_map f (target (first_link o))) (option_and_then (λ (n : Node). first (ids_of (children_of n)))) d.tree refl
    (λ y m s b. ap (option_map f) (body-parts y s (body_of m) b).1 ∙ (sym (first-renamed f (ids_of (children_of m))) ∙ ap first (sym (children-renamed f m))))

-- ---- where a node hangs

or-none : {X : Type 0} (o p : Option X) → or_else o p ≡ None → (o ≡ None) × (p ≡ None)
or-none None p e = (refl, e)
or-none (Some x) p e = absurd (none-some x (sym e))

or-false : (a b : Bool) → (a || b) ≡ false → (a ≡ false) × (b ≡ false)
or-false true b e = absurd (false≢true (sym e))
or-false false b e = (refl, e)

mutual
  -- a node that no other has among its children is the root
  pub top-alone : (y : ℕ) (n : Node) → IsAmong y (ids n) → parent_in y n ≡ None → y ≡ id_of n
  top-alone y (element id name attributes children) (inl e) none = e
  top-alone y (element id name attributes children) (inr a) none = elim (cases_Bool (is_among y (ids_of children))) [
    | inl t ↦ absurd (none-some (element id name attributes children) (sym (rw t at none)))
    | inr o ↦ absurd (has-parent y children a o (rw o at none))
  ]
  top-alone y (text id cs) (inl e) none = e
  top-alone y (text id cs) (inr a) none = absurd a

  has-parent : (y : ℕ) (ns : Nodes) → IsAmong y (all_ids ns) → is_among y (ids_of ns) ≡ false → parent_below y ns ≡ None → ⊥
  has-parent y no_nodes a o none = a
  has-parent y (node n ns) a o none =
      let both = or-none (parent_in y n) (parent_below y ns) none in
      let none_here = or-false (y == id_of n) (is_among y (ids_of ns)) o in
      elim (among-split y (ids n) (all_ids ns) a) [
        | inl k ↦ false≢true (sym none_here.0 ∙ eq-eqb y (id_of n) (top-alone y n k both.0))
        | inr k ↦ has-parent y ns k none_here.1 both.1
      ]

-- each node of the tree hangs where the tree says
pub place-node : (k : Kept) (x : ℕ) (n : Node) (y : ℕ) → HoldsTree k x n → IsAmong y (ids n)
    → place_at k.slots y ≡ Some (record { up = parent_of y n; before = prev_of y n; after = next_of y n })
place-node k x n y h a = elim (none-or-some (parent_in y n)) [
  | inl none ↦
      ap (place_at k.slots) (top-alone y n a none ∙ h.at) ∙ (h.top ∙ sym (λ j. Some (record {
        up = option_and_then (λ (p : Node). Some (id_of p)) (none j);
        before = option_and_then (λ (p : Node). before y None (ids_of (children_of p))) (none j);
        after = option_and_then (λ (p : Node). after y (ids_of (children_of p))) (none j);
      })))
  | inr some ↦
      let up : parent_of y n ≡ Some (id_of some.0) = ap (option_and_then (λ (p : Node). Some (id_of p))) some.1 in
      place-child (cells_of k.slots) n y (id_of some.0) h.distinct h.linked up ∙ ap (λ o. Some (record { up = o; before = prev_of y n; after = next_of y n })) (sym up)
]

absent : (k : Kept) (x : ℕ) (n : Node) (i : ℕ) → HoldsTree k x n → table_at k.table i ≡ None → parent_in i (rename (id_at k.slots) n) ≡ None
absent k x n i h e =
    let root : Node = rename (id_at k.slots) n in
    parent-absent i root (λ a. false≢true (sym (ap is_some (not-found k x n i h e)) ∙ among-find i root a))

-- what is read of the place of a slot is what is read of the tree
read-place : (k : Kept) (x i : ℕ) (link : Option Slot → Link) (part : Place → Option ℕ) (of : ℕ → Node → Option ℕ) → IsDoc k x → target (link None) ≡ None
    → ((s : Slot) → target (link (Some s)) ≡ part (place_in s))
    → ((y : ℕ) → part (record { up = parent_of y (tree_in k.slots x); before = prev_of y (tree_in k.slots x); after = next_of y (tree_in k.slots x) }) ≡ of y (tree_in k.slots x))
    → (parent_in i (document_in k x).root ≡ None → of i (document_in k x).root ≡ None)
    → ((y : ℕ) → IsAlone (id_at k.slots) y (ids (tree_in k.slots x)) → of (id_at k.slots y) (document_in k x).root ≡ option_map (id_at k.slots) (of y (tree_in k.slots x)))
    → option_map (id_at k.slots) (target (link (slot_by_id k i))) ≡ of i (document_in k x).root
read-place k x i link part of d none reads is gone renamed =
    let f : ℕ → ℕ = id_at k.slots in
    let n : Node = tree_in k.slots x in
    elim (none-or-some (table_at k.table i)) [
      | inl e ↦ ap (λ o. option_map f (target (link o))) (ap (option_and_then (slice_get k.slots)) e) ∙ (ap (option_map f) none ∙ sym (gone (absent k x n i d.tree e)))
      | inr e ↦
          let y : ℕ = e.0 in
          let at = d.tree.store.found i y e.1 in
          let a : IsAmong y (ids n) = d.tree.only y at.0 in
          let g = slot-found k x n i y d.tree e.1 in
          let slot : slice_get k.slots y ≡ Some g.1.0 = sym (ap (option_and_then (slice_get k.slots)) e.1) ∙ g.1.1.1.0 in
          let place : place_in g.1.0 ≡ record { up = parent_of y n; before = prev_of y n; after = next_of y n } = same_Some _ _ (sym (ap (option_map place_in) slot) ∙ place-node k x n y d.tree a) in
          ap (λ o. option_map f (target (link o))) g.1.1.1.0
          ∙ (ap (option_map f) (reads g.1.0 ∙ (ap part place ∙ is y)) ∙ (sym (renamed y (tree-alone k x n d.tree y a)) ∙ ap (λ (j : ℕ). of j (document_in k x).root) at.1))
    ]

pub read-parent : (k : Kept) (x i : ℕ) → IsDoc k x → option_map (id_at k.slots) (target (up_link (slot_by_id k i))) ≡ parent_of i (document_in k x).root
read-parent k x i d =
    read-place k x i up_link (λ p. p.up) parent_of d refl (λ s. refl) (λ y. refl) (λ none. ap (option_and_then (λ (p : Node). Some (id_of p))) none)
    (λ y a. parent_of-renamed (id_at k.slots) y (tree_in k.slots x) a)

-- the children of a node's parent are nodes of the tree
child-listed : (y z : ℕ) (n p : Node) → AreDistinct (ids n) → parent_in y n ≡ Some p → IsAmong z (ids_of (children_of p)) → IsAmong z (ids n)
child-listed y z n p d e h =
    let up : parent_in z n ≡ Some p = found-parent (id_of p) z n p d (parent-found y n p d e) h in
    (parent-among z n p up).0

next_of-renamed : (f : ℕ → ℕ) (y : ℕ) (n : Node) → AreDistinct (ids n) → IsAlone f y (ids n) → next_of (f y) (rename f n) ≡ option_map f (next_of y n)
next_of-renamed f y n d a =
    ap (option_and_then (λ (p : Node). after (f y) (ids_of (children_of p)))) (parent_in-renamed f y n a) ∙ by-parent (parent_in y n) refl
  where
    by-parent : (o : Option Node) → parent_in y n ≡ o → option_and_then (λ (p : Node). after (f y) (ids_of (children_of p))) (option_map (rename f) o) ≡ option_map f (option_and_then (λ (p : Node). after y (ids_of (children_of p))) o)
    by-parent None e = refl
    by-parent (Some p) e =
        ap (after (f y)) (children-renamed f p)
        ∙ after-renamed f y (ids_of (children_of p)) (λ z h. a z (child-listed y z n p d e h))

prev_of-renamed : (f : ℕ → ℕ) (y : ℕ) (n : Node) → AreDistinct (ids n) → IsAlone f y (ids n) → prev_of (f y) (rename f n) ≡ option_map f (prev_of y n)
prev_of-renamed f y n d a =
    ap (option_and_then (λ (p : Node). before (f y) None (ids_of (children_of p)))) (parent_in-renamed f y n a) ∙ by-parent (parent_in y n) refl
  where
    by-parent : (o : Option Node) → parent_in y n ≡ o → option_and_then (λ (p : Node). before (f y) None (ids_of (children_of p))) (option_map (rename f) o) ≡ option_map f (option_and_then (λ (p : Node). before y None (ids_of (children_of p))) o)
    by-parent None e = refl
    by-parent (Some p) e =
        ap (before (f y) None) (children-renamed f p)
        ∙ before-renamed f y None (ids_of (children_of p)) (λ z h. a z (child-listed y z n p d e h))

pub read-next : (k : Kept) (x i : ℕ) → IsDoc k x → option_map (id_at k.slots) (target (next_link (slot_by_id k i))) ≡ next_of i (document_in k x).root
read-next k x i d =
    read-place k x i next_link (λ p. p.after) next_of d refl (λ s. refl) (λ y. refl) (λ none. ap (option_and_then (λ (p : Node). after i (ids_of (children_of p)))) none)
    (λ y a. next_of-renamed (id_at k.slots) y (tree_in k.slots x) d.tree.distinct a)

pub read-prev : (k : Kept) (x i : ℕ) → IsDoc k x → option_map (id_at k.slots) (target (prev_link (slot_by_id k i))) ≡ prev_of i (document_in k x).root
read-prev k x i d =
    read-place k x i prev_link (λ p. p.before) prev_of d refl (λ s. refl) (λ y. refl) (λ none. ap (option_and_then (λ (p : Node). before i None (ids_of (children_of p)))) none)
    (λ y a. prev_of-renamed (id_at k.slots) y (tree_in k.slots x) d.tree.distinct a)

-- ---- the root

pub read-root : (k : Kept) (x : ℕ) → IsDoc k x → id_at k.slots x ≡ id_of (document_in k x).root
read-root k x d = ap (id_at k.slots) (sym d.tree.at) ∙ sym (id_of-renamed (id_at k.slots) (tree_in k.slots x))
