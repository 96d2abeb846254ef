-- The slots after a tree was built and hung below a node, and after it could not be built.
use Rattle.std.proofs.Common.{IsSome, List, None, Option, Some, [], ap, arith, drop, false, inl, inr, is_none, is_some, length, option_and_then, option_map, refl, slice_get, subst, suc, sym, take, true, unwrap_or, zero, ℕ, ◌<◌, ◌∙◌, ◌∷◌, ◌≡◌, ◌≤◌}
use Rattle.std.proofs.lemmas.Bool.{cases_lt, false≢true}
use Rattle.std.proofs.lemmas.List.{length-take-le}
use Rattle.std.proofs.lemmas.Option.{none-some}
use Rattle.dom_arena.proofs.Attached.{Attaches, among-drop, among-take, linked-attached}
use Rattle.dom_arena.proofs.Builds.{built-distinct, built-live, built-old, children-count, map-length}
use Rattle.dom_arena.proofs.Chains.{end-among, front-among}
use Rattle.dom_arena.proofs.Docs.{doc-facts, found-by, not-found, read-name, slot-node, tree-alone, tree-live}
use Rattle.dom_arena.proofs.Hooked.{Relinked, attaches, relinked-attached}
use Rattle.dom_arena.proofs.Kept.{id-given, live-same, live-small, live-within, store-relinked}
use Rattle.dom_arena.proofs.Loads.{document_of, part-length, tree-doc}
use Rattle.dom_arena.proofs.Releases.{id-slot, linked-slots, place-slot}
use Rattle.dom_arena.proofs.Renamed.{children-renamed, ids-renamed, inserted-renamed, level-renamed, name_of-renamed, rename-same, without-renamed}
use Rattle.dom_arena.proofs.Walks.{ends-of}
use Rattle.dom_arena.specs.Between.{IsBetween}
use Rattle.dom_arena.specs.Built.{Built, Restored}
use Rattle.dom_arena.specs.Cells.{AreLinked, IsLinked, body_of}
use Rattle.dom_arena.specs.Docs.{HoldsTree, IsDoc, document_in}
use Rattle.dom_arena.specs.Inserting.{HasRoom, Inserts, element_causes}
use Rattle.dom_arena.specs.Reading.{tree_in}
use Rattle.dom_arena.specs.Rename.{IsAlone, rename}
use Rattle.dom_arena.specs.Slots.{IsLive, body_at, cells_of, child_number, id_at, name_in_slot, place_at, table_at, target}
use Rattle.dom_arena.specs.Stores.{IsStore, Kept}
use Rattle.dom_arena.specs.Taking.{IsDocOf}
use Rattle.dom_arena.specs.Writes.{attached}
use Rattle.dom_arena.specs.declared.link.Link.{Link}
use Rattle.dom_arena.specs.declared.slot.Slot.{Slot}
use Rattle.page_laws.proofs.Find.{among-top, child-below, find-distinct, find-id, find-part, named-some, some-among}
use Rattle.page_laws.proofs.BrokenLimits.{count-after, height-after, text_size-after}
use Rattle.page_laws.proofs.KeptLimits.{kept-inserted, place-of_insert}
use Rattle.page_laws.proofs.Levels.{level-found}
use Rattle.page_laws.proofs.Options.{some-is}
use Rattle.page_laws.proofs.ParentOf.{child-lower, child_ids-found}
use Rattle.page_laws.proofs.Siblings.{children-distinct}
use Rattle.page_laws.proofs.Spliced.{spliced-part, spliced-rest}
use Rattle.page_laws.proofs.TreeAfterInsert.{distinct-inserted, id_of-inserted, name_of-inserted, node_count-inserted, spliced-inserted, text_size-inserted}
use Rattle.page_laws.proofs.WithIds.{node_count-with_ids, without-with_ids}
use Rattle.page_laws.specs.Ids.{FitsBelow}
use Rattle.page_laws.specs.Limits.{KeepsLimits}
use Rattle.page_model.specs.Document.{Document, IsAmong, Node, children_of, find, id_of, ids, ids_of, name_at, name_of, node_count, with_ids, without_ids}
use Rattle.page_model.specs.Edits.{child_count, document_after_insert, insert_causes, level, taken_below, tree_after_insert}
use Rattle.page_model.specs.Refusals.{first_of}
use Rattle.page_model.specs.declared.cause.Cause.TheVariants.{NoNode, NotElement}
use Rattle.page_model.specs.Trees.{Tree, size, text_size}

-- ---- a tree was built beside the document, and is hung below the node `m` of it

-- what stands where the tree is hung
pub record Hung (a c : Kept) (t : Tree) (s p k x : ℕ) (n m : Node) (prev next : Link) : Type 0 where
  pub before : HoldsTree a x n
  pub built : Built a c t s
  pub found : find p n ≡ Some m
  pub named : IsSome (name_of m)
  pub between : IsBetween prev next k (ids_of (children_of m))

abbrev pub slots_hung : Kept → ℕ → ℕ → Link → Link → List Slot
slots_hung c p s prev next = attached p s prev next c.slots

-- what lived before lives as before
old-live : (a c : Kept) (t : Tree) (s p k x : ℕ) (n m : Node) (prev next : Link) → Hung a c t s p k x n m prev next → (j : ℕ) → IsAmong j (ids n) → IsLive c.slots j
old-live a c t s p k x n m prev next h j i = built-old a c t s h.built j (tree-live a x n h.before j i)

fits : (a c : Kept) (t : Tree) (s p k x : ℕ) (n m : Node) (prev next : Link) → (h : Hung a c t s p k x n m prev next) → FitsBelow p h.built.built n
fits a c t s p k x n m prev next h = record {
  distinct = h.before.distinct;
  new_distinct = built-distinct a c t s h.built;
  apart = λ j i o. h.built.fresh j i (tree-live a x n h.before j o);
  element = ap (λ o. is_some (option_and_then name_of o)) h.found ∙ h.named;
}

linked-before : (a c : Kept) (t : Tree) (s p k x : ℕ) (n m : Node) (prev next : Link) → Hung a c t s p k x n m prev next → AreLinked (cells_of c.slots) n
linked-before a c t s p k x n m prev next h =
    linked-slots a.slots c.slots n (λ j i. h.built.same j (tree-live a x n h.before j i)) h.before.linked

-- the new tree's root is no child of the node
new-child : (a c : Kept) (t : Tree) (s p k x : ℕ) (n m : Node) (prev next : Link) → Hung a c t s p k x n m prev next → (j : ℕ) → IsAmong j (ids n) → j ≡ s → ⊥
new-child a c t s p k x n m prev next h j i e =
    h.built.fresh s (subst (λ (q : ℕ). IsAmong q (ids h.built.built)) h.built.at (among-top h.built.built)) (tree-live a x n h.before s (subst (λ (q : ℕ). IsAmong q (ids n)) e i))

below-root : (n m : Node) (p : ℕ) → find p n ≡ Some m → (j : ℕ) → IsAmong j (ids_of (children_of m)) → IsAmong j (ids n)
below-root n m p f j i = find-part p n m j f (child-below j m i)

few-below : (a c : Kept) (t : Tree) (s p k x : ℕ) (n m : Node) (prev next : Link) → Hung a c t s p k x n m prev next → length (ids_of (children_of m)) < 4294967295
few-below a c t s p k x n m prev next h =
    omega (arith, children-count m, part-length p n m h.found, h.before.live, h.before.store.count, h.before.store.few)

writes : (a c : Kept) (t : Tree) (s p k x : ℕ) (n m : Node) (prev next : Link) → (h : Hung a c t s p k x n m prev next)
    → Attaches (cells_of c.slots) (cells_of (slots_hung c p s prev next)) p k h.built.built m
writes a c t s p k x n m prev next h =
    let new : Node = h.built.built in
    let s_among : IsAmong s (ids new) = subst (λ (q : ℕ). IsAmong q (ids new)) h.built.at (among-top new) in
    let s_live : IsLive c.slots s = built-live a c t s h.built s s_among in
    let p_live : IsLive c.slots p = old-live a c t s p k x n m prev next h p (some-among p n m h.found) in
    let body : body_at c.slots p ≡ Some (body_of m) = ap (body_at c.slots) (find-id p n m h.found) ∙ (linked-before a c t s p k x n m prev next h p m h.found).0 in
    attaches c.slots p s k prev next new m (sym h.built.at) (live-within c.slots s s_live) (live-small c s h.built.store s_live)
    (live-small c p h.built.store p_live) (few-below a c t s p k x n m prev next h) h.between.0 h.between.1 body
    (λ j i. new-child a c t s p k x n m prev next h j (below-root n m p h.found j i)) (children-distinct m (find-distinct p n m h.found h.before.distinct))

top-hung : (a c : Kept) (t : Tree) (s p k x : ℕ) (n m : Node) (prev next : Link) → Hung a c t s p k x n m prev next
    → place_at (slots_hung c p s prev next) x ≡ place_at a.slots x
top-hung a c t s p k x n m prev next h =
    let w = writes a c t s p k x n m prev next h in
    let xs : List ℕ = ids_of (children_of m) in
    let root : IsAmong x (ids n) = subst (λ (q : ℕ). IsAmong q (ids n)) h.before.at (among-top n) in
    let top : (j : ℕ) → IsAmong j xs → x ≡ j → ⊥ = λ j i e. child-lower p j n m h.before.distinct h.found i (sym e ∙ sym h.before.at) in
    w.hooks.others x (λ e. new-child a c t s p k x n m prev next h x root (e ∙ h.built.at))
    (λ e. top x (among-take x k xs (end-among x (take k xs) e)) refl) (λ e. top x (among-drop x k xs (front-among x (drop k xs) e)) refl)
    ∙ place-slot a.slots c.slots x (h.built.same x (tree-live a x n h.before x root))

pub hung-holds : (a c : Kept) (t : Tree) (s p k x : ℕ) (n m : Node) (prev next : Link) → (h : Hung a c t s p k x n m prev next)
    → HoldsTree (record c { slots = slots_hung c p s prev next }) x (tree_after_insert p k h.built.built n)
hung-holds a c t s p k x n m prev next h =
    let new : Node = h.built.built in
    let slots : List Slot = slots_hung c p s prev next in
    let f : ℕ → ℕ = id_at c.slots in
    let fit : FitsBelow p new n = fits a c t s p k x n m prev next h in
    let spliced = spliced-inserted p k new n fit in
    let relinked : Relinked c.slots slots = relinked-attached c.slots p s prev next in
    let plain : without_ids new ≡ t = sym (without-renamed f new) ∙ (ap without_ids h.built.tree ∙ without-with_ids (length a.table) t) in
    let points : text_size (without_ids new) ≡ text_size t = ap text_size plain in
    let number : node_count new ≡ size t = sym (map-length f (ids new)) ∙ (ap length (sym (ids-renamed f new) ∙ ap ids h.built.tree) ∙ node_count-with_ids (length a.table) t) in
    record {
      store = store-relinked c slots relinked h.built.store;
      linked =
          linked-attached (cells_of c.slots) (cells_of slots) n new m p k h.before.distinct fit.new_distinct fit.apart h.found h.named
          (writes a c t s p k x n m prev next h) (linked-before a c t s p k x n m prev next h) h.built.linked;
      distinct = distinct-inserted p k new n fit;
      at = id_of-inserted p k new n ∙ h.before.at;
      top = top-hung a c t s p k x n m prev next h ∙ h.before.top;
      element = ap is_some (name_of-inserted p k new n) ∙ h.before.element;
      only = λ j l. elim (h.built.only j (live-same slots c.slots j (sym (relinked.contents j)) l)) [
        | inl q ↦ spliced-rest j (ids (tree_after_insert p k new n)) (ids new) (ids n) spliced (h.before.only j q)
        | inr q ↦ spliced-part j (ids (tree_after_insert p k new n)) (ids new) (ids n) spliced q
      ];
      live = omega (arith, h.built.live, h.before.live, node_count-inserted p k new n fit, number);
      code_points = omega (arith, h.built.code_points, h.before.code_points, text_size-inserted p k new n fit, points);
    }

-- what is seen then is the document after the insert
pub hung-document : (a c : Kept) (t : Tree) (s p k x : ℕ) (n m : Node) (prev next : Link) → (h : Hung a c t s p k x n m prev next)
    → document_of (record c { slots = slots_hung c p s prev next }) (tree_after_insert p k h.built.built n) ≡ document_after_insert (id_at a.slots p) k t (document_of a n)
hung-document a c t s p k x n m prev next h =
    let new : Node = h.built.built in
    let slots : List Slot = slots_hung c p s prev next in
    let f : ℕ → ℕ = id_at c.slots in
    let relinked : Relinked c.slots slots = relinked-attached c.slots p s prev next in
    let p_among : IsAmong p (ids n) = some-among p n m h.found in
    let same : (j : ℕ) → IsAmong j (ids n) → f j ≡ id_at a.slots j = λ j i. id-slot a.slots c.slots j (h.built.same j (tree-live a x n h.before j i)) in
    let alone : IsAlone f p (ids n) = λ j i e. tree-alone a x n h.before p p_among j i (sym (same j i) ∙ (e ∙ same p p_among)) in
    let root : rename (id_at slots) (tree_after_insert p k new n) ≡ tree_after_insert (id_at a.slots p) k (with_ids (length a.table) t) (rename (id_at a.slots) n) =
    rename-same (id_at slots) f (tree_after_insert p k new n) (λ j i. relinked.ids j)
    ∙ (inserted-renamed f p k new n alone
    ∙ (λ j. tree_after_insert (same p p_among j) k (h.built.tree j) (rename-same f (id_at a.slots) n same j))) in
    λ j. record { root = root j; next_id = h.built.given j }

-- ---- where memory ran out

get-take : {X : Type 0} (xs : List X) (n i : ℕ) → i < n → slice_get (take n xs) i ≡ slice_get xs i
get-take xs zero i h = absurd (omega (arith, h))
get-take [] (suc n) i h = refl
get-take (x ∷ xs) (suc n) zero h = refl
get-take (x ∷ xs) (suc n) (suc i) h = get-take xs n i (omega (arith, h))

get-past-take : {X : Type 0} (xs : List X) (n i : ℕ) → n ≤ i → slice_get (take n xs) i ≡ None
get-past-take xs zero i h = refl
get-past-take [] (suc n) i h = refl
get-past-take (x ∷ xs) (suc n) zero h = absurd (omega (arith, h))
get-past-take (x ∷ xs) (suc n) (suc i) h = get-past-take xs n i (omega (arith, h))

-- the table up to the ids that were given before
pub cut-store : (k : Kept) (given : ℕ) → IsStore k → ((x : ℕ) → IsLive k.slots x → id_at k.slots x < given) → IsStore (record k { table = take given k.table })
cut-store k given s low = record {
  free = s.free;
  chain = s.chain;
  once = s.once;
  count = s.count;
  all = s.all;
  listed = λ x l. ap (option_and_then target) (get-take k.table given (id_at k.slots x) (low x l)) ∙ s.listed x l;
  found = λ i x e. elim (cases_lt i given) [
    | inl w ↦ s.found i x (sym (ap (option_and_then target) (get-take k.table given i w)) ∙ e)
    | inr w ↦ absurd (none-some x (sym (ap (option_and_then target) (get-past-take k.table given i w)) ∙ e))
  ];
  few = s.few;
}

pub restored-holds : (a c : Kept) (x : ℕ) (n : Node) → HoldsTree a x n → Restored a c → HoldsTree (record c { table = take (length a.table) c.table }) x n
restored-holds a c x n h r =
    let live : (j : ℕ) → IsAmong j (ids n) → IsLive a.slots j = tree-live a x n h in
    let root : IsAmong x (ids n) = subst (λ (q : ℕ). IsAmong q (ids n)) h.at (among-top n) in
    record {
      store = cut-store c (length a.table) r.store (λ j l. subst (λ (i : ℕ). i < length a.table) (sym (id-slot a.slots c.slots j (r.same j (r.only j l)))) (id-given a j h.store (r.only j l)));
      linked = linked-slots a.slots c.slots n (λ j i. r.same j (live j i)) h.linked;
      distinct = h.distinct;
      at = h.at;
      top = place-slot a.slots c.slots x (r.same x (live x root)) ∙ h.top;
      element = h.element;
      only = λ j l. h.only j (r.only j l);
      live = r.live ∙ h.live;
      code_points = r.code_points ∙ h.code_points;
    }

pub restored-document : (a c : Kept) (x : ℕ) (n : Node) → HoldsTree a x n → Restored a c → document_of (record c { table = take (length a.table) c.table }) n ≡ document_of a n
restored-document a c x n h r =
    let root : rename (id_at c.slots) n ≡ rename (id_at a.slots) n = rename-same (id_at c.slots) (id_at a.slots) n (λ j i. id-slot a.slots c.slots j (r.same j (tree-live a x n h j i))) in
    let next : length (take (length a.table) c.table) ≡ length a.table = length-take-le (length a.table) c.table r.given in
    λ j. record { root = root j; next_id = next j }

-- ---- from the causes of a refusal

-- the element with an id, in its slot
pub record Stands (k : Kept) (x i p : ℕ) : Type 0 where
  pub node : Node
  pub found : find p (tree_in k.slots x) ≡ Some node
  pub found_by_id : find i (document_in k x).root ≡ Some (rename (id_at k.slots) node)
  pub id : id_at k.slots p ≡ i
  pub name : name_in_slot (slice_get k.slots p) ≡ name_of node
  pub body : body_at k.slots p ≡ Some (body_of node)

pub stands : (k : Kept) (x i p : ℕ) → IsDoc k x → table_at k.table i ≡ Some p → Stands k x i p
stands k x i p d e =
    let n : Node = tree_in k.slots x in
    let at = d.tree.store.found i p e in
    let m = slot-node k x n p d.tree at.0 in
    let found : find i (document_in k x).root ≡ Some (rename (id_at k.slots) m.0) = found-by k x n i p d.tree e ∙ ap (option_map (rename (id_at k.slots))) m.1.0 in
    record {
      node = m.0;
      found = m.1.0;
      found_by_id = found;
      id = at.1;
      name =
          ap name_in_slot (sym (ap (option_and_then (slice_get k.slots)) e)) ∙ (read-name k x i d
          ∙ (ap (option_and_then name_of) found ∙ name_of-renamed (id_at k.slots) m.0));
      body = m.1.1;
    }

-- the name of an element by its id is that in its slot
pub name-there : (k : Kept) (x i p : ℕ) → IsDoc k x → table_at k.table i ≡ Some p → name_at i (document_in k x).root ≡ name_in_slot (slice_get k.slots p)
name-there k x i p d e = sym (read-name k x i d) ∙ ap name_in_slot (ap (option_and_then (slice_get k.slots)) e)

pub no-node : (k : Kept) (x i : ℕ) → IsDoc k x → table_at k.table i ≡ None → first_of (element_causes i (document_in k x)) ≡ Some NoNode
no-node k x i d e = rw (not-found k x (tree_in k.slots x) i d.tree e) refl

pub no-element : (k : Kept) (x i p : ℕ) → IsDoc k x → table_at k.table i ≡ Some p → is_some (name_in_slot (slice_get k.slots p)) ≡ false
    → first_of (element_causes i (document_in k x)) ≡ Some NotElement
no-element k x i p d e dead =
    let s = stands k x i p d e in
    let none : name_at i (document_in k x).root ≡ None = name-there k x i p d e ∙ not-some (name_in_slot (slice_get k.slots p)) dead in
    λ j. first_of ((is_none (s.found_by_id j), NoNode) ∷ (is_none (none j), NotElement) ∷ [])
  where
    not-some : {X : Type 0} (o : Option X) → is_some o ≡ false → o ≡ None
    not-some None h = refl
    not-some (Some x) h = absurd (false≢true (sym h))

pub an-element : (k : Kept) (x i p : ℕ) → IsDoc k x → table_at k.table i ≡ Some p → is_some (name_in_slot (slice_get k.slots p)) ≡ true
    → first_of (element_causes i (document_in k x)) ≡ None
an-element k x i p d e there =
    let s = stands k x i p d e in
    let name = some-is (name_at i (document_in k x).root) (ap is_some (name-there k x i p d e) ∙ there) in
    λ j. first_of ((is_none (s.found_by_id j), NoNode) ∷ (is_none (name.1 j), NotElement) ∷ [])

-- the number of children by its id is that in its slot
pub count-there : (k : Kept) (x i p : ℕ) → IsDoc k x → table_at k.table i ≡ Some p → child_number (slice_get k.slots p) ≡ child_count i (document_in k x).root
count-there k x i p d e =
    let s = stands k x i p d e in
    let f : ℕ → ℕ = id_at k.slots in
    (ends-of k.slots p s.node s.body).count
    ∙ sym (ap length (child_ids-found i (document_in k x).root (rename f s.node) s.found_by_id ∙ children-renamed f s.node) ∙ map-length f (ids_of (children_of s.node)))

-- what is taken of the limits below the node
pub taken-there : (k : Kept) (x i p l : ℕ) → IsDoc k x → table_at k.table i ≡ Some p → level p (tree_in k.slots x) ≡ Some l
    → record { level = l; nodes = k.live; ids = length k.table; code_points = k.code_points } ≡ taken_below i (document_in k x)
taken-there k x i p l d e deep =
    let n : Node = tree_in k.slots x in
    let f : ℕ → ℕ = id_at k.slots in
    let at = d.tree.store.found i p e in
    let level_is : level i (document_in k x).root ≡ Some l =
    ap (λ (j : ℕ). level j (rename f n)) (sym at.1) ∙ (level-renamed f p n (tree-alone k x n d.tree p (d.tree.only p at.0)) ∙ deep) in
    let nodes : k.live ≡ node_count (rename f n) = d.tree.live ∙ sym (ap length (ids-renamed f n) ∙ map-length f (ids n)) in
    let points : k.code_points ≡ text_size (without_ids (rename f n)) = d.tree.code_points ∙ sym (ap text_size (without-renamed f n)) in
    λ j. record { level = unwrap_or (sym level_is j) 0; nodes = nodes j; ids = length k.table; code_points = points j }

-- where nothing refuses an insert, there is room
pub room-there : (k : Kept) (x i index : ℕ) (t : Tree) → IsDoc k x → first_of (insert_causes i index t (document_in k x)) ≡ None → HasRoom k t
room-there k x i index t d none =
    let n : Node = tree_in k.slots x in
    let f : ℕ → ℕ = id_at k.slots in
    let doc : Document = document_in k x in
    let given = (doc-facts k x d).ids in
    let place = place-of_insert i index t doc given none in
    let keeps = kept-inserted i index t doc given d.limits none in
    let nodes : k.live ≡ node_count doc.root = d.tree.live ∙ sym (ap length (ids-renamed f n) ∙ map-length f (ids n)) in
    let points : k.code_points ≡ text_size (without_ids doc.root) = d.tree.code_points ∙ sym (ap text_size (without-renamed f n)) in
    let l = some-is (level i doc.root) (level-found i doc.root ∙ ap is_some (named-some (find i doc.root) place.0.1).1.0) in
    record {
      store = d.tree.store;
      nodes = omega (arith, nodes, count-after i index t doc place.0, keeps.few);
      ids = keeps.given;
      code_points = omega (arith, points, text_size-after i index t doc place.0, keeps.code_points);
      low = omega (arith, height-after i index t doc l.0 place.0 l.1, keeps.low);
    }

-- ---- the document after an insert

pub inserts : (a c : Kept) (t : Tree) (s p k : ℕ) (prev next : Link) → Built a c t s
    → ((m : Node) → id_of m ≡ p → IsLinked (cells_of c.slots) m → k ≤ length (ids_of (children_of m)) → IsBetween prev next k (ids_of (children_of m)))
    → Inserts a (record c { slots = slots_hung c p s prev next }) p k t
inserts a c t s p k prev next r place x i d e none =
    let n : Node = tree_in a.slots x in
    let doc : Document = document_in a x in
    let new : Kept = record c { slots = slots_hung c p s prev next } in
    let st = stands a x i p d e in
    let m : Node = st.node in
    let given = (doc-facts a x d).ids in
    let free = place-of_insert i k t doc given none in
    let linked : AreLinked (cells_of c.slots) n = linked-slots a.slots c.slots n (λ j h. r.same j (tree-live a x n d.tree j h)) d.tree.linked in
    let id : p ≡ id_of m = find-id p n m st.found in
    let index : k ≤ length (ids_of (children_of m)) = omega (arith, free.1, sym (count-there a x i p d e) ∙ (ends-of a.slots p m st.body).count) in
    let named : IsSome (name_of m) = ap is_some (sym (st.name) ∙ sym (name-there a x i p d e)) ∙ free.0.1 in
    let h : Hung a c t s p k x n m prev next = record {
      before = d.tree;
      built = r;
      found = st.found;
      named = named;
      between = place m (sym id) (linked p m st.found) index;
    } in
    let same : document_of new (tree_after_insert p k r.built n) ≡ document_after_insert i k t doc =
    hung-document a c t s p k x n m prev next h ∙ ap (λ (j : ℕ). document_after_insert j k t doc) st.id in
    let keeps : KeepsLimits (document_after_insert i k t doc) = kept-inserted i k t doc given d.limits none in
    let is = tree-doc new x (tree_after_insert p k r.built n) (hung-holds a c t s p k x n m prev next h) (subst KeepsLimits (sym same) keeps) in
    (is.1, is.0 ∙ same)

-- the document where memory ran out
pub inserts-none : (a c : Kept) → Restored a c → (x : ℕ) → IsDoc a x → IsDocOf (record c { table = take (length a.table) c.table }) x (document_in a x)
inserts-none a c r x d =
    let n : Node = tree_in a.slots x in
    let new : Kept = record c { table = take (length a.table) c.table } in
    let same : document_of new n ≡ document_of a n = restored-document a c x n d.tree r in
    let is = tree-doc new x n (restored-holds a c x n d.tree r) (subst KeepsLimits (sym same) d.limits) in
    (is.1, is.0 ∙ same)
