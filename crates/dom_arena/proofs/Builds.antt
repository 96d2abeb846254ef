-- The building of trees.
use Rattle.std.proofs.Common.{IsSome, List, None, Option, Some, [], ap, arith, drop, eq-eqb, eqb-true, inl, inr, is_some, length, length-append, map, option_and_then, option_map, refl, slice_get, subst, suc, sym, take, true, unwrap_or, ℕ, ◌++◌, ◌+◌, ◌<◌, ◌==◌, ◌∙◌, ◌∷◌, ◌≡◌, ◌≤◌}
use Rattle.std.proofs.lemmas.Bool.{cases_Bool, eqb-false, false≢true}
use Rattle.std.proofs.lemmas.Option.{none-some, same_Some}
use Rattle.dom_arena.proofs.Attached.{Attaches, among-drop, among-take, linked-attached}
use Rattle.dom_arena.proofs.Chains.{end-among, front-among}
use Rattle.dom_arena.proofs.Hooked.{Relinked, attaches, relinked-attached}
use Rattle.dom_arena.proofs.Kept.{alone-live, get-spot, get-spot-other, live-same, live-slot-same, live-small, live-within, spot-dead, store-relinked, store-with}
use Rattle.dom_arena.proofs.Lists.{length-push}
use Rattle.dom_arena.proofs.Releases.{id-slot, linked-live, linked-slots, node-length, place-slot, slot-of-body}
use Rattle.dom_arena.proofs.Renamed.{children-renamed, height-renamed, id_of-renamed, ids-renamed, inserted-renamed, name_of-renamed, rename-same, without-renamed}
use Rattle.dom_arena.proofs.Written.{body-parts, get-changed-other}
use Rattle.dom_arena.specs.Built.{Built, IsBranch, Released, Restored}
use Rattle.dom_arena.specs.Cells.{AreChained, AreLinked, IsLinked, body_of, final, front}
use Rattle.dom_arena.specs.Rename.{IsAlone, rename}
use Rattle.dom_arena.specs.Slots.{IsLive, body_at, body_in, cells_of, id_at, is_node, last_link, own_in, place_at, place_in, target, tree_of_content}
use Rattle.dom_arena.specs.Stores.{IsStore, Kept, kept_with, leaf, link_to, no_link, slots_with, spot}
use Rattle.dom_arena.specs.Writes.{attached, back, changed, forward, one_more, with_first, with_last, with_next, with_place, with_prev}
use Rattle.page_laws.proofs.Find.{among-top, child-below, find-top}
use Rattle.page_laws.proofs.Options.{if-found}
use Rattle.page_laws.proofs.ParentOf.{child-lower}
use Rattle.page_laws.proofs.Siblings.{children-distinct}
use Rattle.page_laws.proofs.Spliced.{spliced-among, spliced-part, spliced-rest}
use Rattle.page_laws.proofs.TreeAfterInsert.{id_of-inserted, spliced-inserted}
use Rattle.page_laws.proofs.WithIds.{distinct-with_ids, height-with_ids, node_count-with_ids, without-with_ids}
use Rattle.page_laws.specs.Ids.{AreApart, FitsBelow}
use Rattle.page_model.specs.Document.{AreDistinct, IsAmong, Node, Nodes, all_ids, all_with_ids, children_of, element, find, height, id_of, ids, ids_of, name_of, no_nodes, node, text, with_ids, without_ids}
use Rattle.page_model.specs.Edits.{tree_after_insert, with_child}
use Rattle.page_model.specs.Trees.{Attribute, Text, Tree, Trees, depth, depths, elem, size, sizes, text_size, text_sizes, trees_of, value_size}
use Rattle.page_model.specs.declared.limits.TheConstants.{MAX_DEPTH, MAX_IDS, MAX_NODES, MAX_TEXTS}
use Rattle.dom_arena.specs.declared.link.Link.{Link}
use Rattle.dom_arena.specs.declared.slot.Content.{Content}
use Rattle.dom_arena.specs.declared.slot.Content.TheVariants.{Chars, Element, Free}
use Rattle.dom_arena.specs.declared.slot.Slot.{Slot}

-- ---- a node without children

-- the node of a content in a slot
abbrev pub node_in : ℕ → Content → Node
node_in x (Element name attributes) = element x name attributes no_nodes
node_in x (Chars cs) = text x cs
node_in x (Free next) = text x []

own-node : (x : ℕ) (c : Content) → is_node (Some c) ≡ true → own_in x c ≡ Some (node_in x c)
own-node x (Element name attributes) n = refl
own-node x (Chars cs) n = refl
own-node x (Free next) n = absurd (false≢true n)

body-node : (x size : ℕ) (c : Content) → is_node (Some c) ≡ true → size ≡ text_size (tree_of_content c) → body_of (node_in x c) ≡ record { own = node_in x c; first = None; last = None; count = 0; size = size }
body-node x size (Element name attributes) n e =
    let same : value_size attributes ≡ size = omega (arith, e) in
    ap (λ m. record { own = element x name attributes no_nodes; first = None; last = None; count = 0; size = m }) same
body-node x size (Chars cs) n e = ap (λ m. record { own = text x cs; first = None; last = None; count = 0; size = m }) (sym e)
body-node x size (Free next) n e = absurd (false≢true n)

node-only : (x i : ℕ) (c : Content) (n : Node) → find i (node_in x c) ≡ Some n → (i ≡ x) × (node_in x c ≡ n)
node-only x i (Element name attributes) n e = elim (if-found (i == x) (element x name attributes no_nodes) n None e) [
  | inl k ↦ (eqb-true i x k.0, same_Some (element x name attributes no_nodes) n k.1)
  | inr k ↦ absurd (none-some n k.1)
]
node-only x i (Chars cs) n e = elim (if-found (i == x) (text x cs) n None e) [
  | inl k ↦ (eqb-true i x k.0, same_Some (text x cs) n k.1)
  | inr k ↦ absurd (none-some n k.1)
]
node-only x i (Free next) n e = elim (if-found (i == x) (text x []) n None e) [
  | inl k ↦ (eqb-true i x k.0, same_Some (text x []) n k.1)
  | inr k ↦ absurd (none-some n k.1)
]

node-children : (x : ℕ) (c : Content) → ids_of (children_of (node_in x c)) ≡ []
node-children x (Element name attributes) = refl
node-children x (Chars cs) = refl
node-children x (Free next) = refl

node-id : (x : ℕ) (c : Content) → id_of (node_in x c) ≡ x
node-id x (Element name attributes) = refl
node-id x (Chars cs) = refl
node-id x (Free next) = refl

node-among : (x y : ℕ) (c : Content) → IsAmong y (ids (node_in x c)) → y ≡ x
node-among x y (Element name attributes) (inl e) = e
node-among x y (Chars cs) (inl e) = e
node-among x y (Free next) (inl e) = e
node-among x y (Element name attributes) (inr e) = absurd e
node-among x y (Chars cs) (inr e) = absurd e
node-among x y (Free next) (inr e) = absurd e

among-node : (x y : ℕ) (c : Content) → y ≡ x → IsAmong y (ids (node_in x c))
among-node x y (Element name attributes) e = inl e
among-node x y (Chars cs) e = inl e
among-node x y (Free next) e = inl e

node-tree : (f : ℕ → ℕ) (x n : ℕ) (c : Content) → is_node (Some c) ≡ true → f x ≡ n → rename f (node_in x c) ≡ with_ids n (tree_of_content c)
node-tree f x n (Element name attributes) h e = ap (λ m. element m name attributes no_nodes) e
node-tree f x n (Chars cs) h e = ap (λ m. text m cs) e
node-tree f x n (Free next) h e = absurd (false≢true h)

node-one : (c : Content) → size (tree_of_content c) ≡ 1
node-one (Element name attributes) = refl
node-one (Chars cs) = refl
node-one (Free next) = refl

leaf-body : (x id size : ℕ) (c : Content) → is_node (Some c) ≡ true → body_in x (leaf id c size) ≡ Some (record { own = node_in x c; first = None; last = None; count = 0; size = size })
leaf-body x id size (Element name attributes) n = refl
leaf-body x id size (Chars cs) n = refl
leaf-body x id size (Free next) n = absurd (false≢true n)

pub built-leaf : (k : Kept) (c : Content) (m : ℕ) → IsStore k → is_node (Some c) ≡ true → m ≡ text_size (tree_of_content c) → k.live + 1 ≤ MAX_NODES
    → Built k (kept_with k c m) (tree_of_content c) (spot k.slots (target k.free))
built-leaf k c m s n e room =
    let x : ℕ = spot k.slots (target k.free) in
    let l : Slot = leaf (length k.table) c m in
    let slots : List Slot = slots_with k.slots (target k.free) l in
    let here : slice_get slots x ≡ Some l = get-spot k l s in
    let body : body_at slots x ≡ Some (body_of (node_in x c)) = ap (option_and_then (body_in x)) here ∙ (leaf-body x (length k.table) m c n ∙ ap Some (sym (body-node x m c n e))) in
    record {
      store = store-with k c m s n room;
      built = node_in x c;
      at = node-id x c;
      linked = λ i y f.
          let is = node-only x i c y f in
          subst (IsLinked (cells_of slots)) is.1 (ap (body_at slots) (node-id x c) ∙ body, subst (λ (xs : List ℕ). AreChained (place_at slots) (id_of (node_in x c)) None xs None) (sym (node-children x c)) tt);
      top = ap (option_map place_in) here;
      tree = node-tree (id_at slots) x (length k.table) c n (ap (λ o. unwrap_or (option_map (λ (t : Slot). t.id) o) 0) here);
      fresh = λ y a h. spot-dead k s (subst (IsLive k.slots) (node-among x y c a) h);
      same = λ y h. get-spot-other k l y (λ q. spot-dead k s (subst (IsLive k.slots) q h));
      only = λ y h. elim (cases_Bool (y == x)) [
        | inl t ↦ inr (among-node x y c (eqb-true y x t))
        | inr o ↦ inl (live-slot-same slots k.slots y (sym (get-spot-other k l y (eqb-false y x o))) h)
      ];
      given = length-push k.table (link_to x) ∙ omega (arith, node-one c);
      live = omega (arith, node-one c);
      code_points = omega (arith, e);
    }

-- ---- what is built is well numbered

pub map-distinct : (f : ℕ → ℕ) (xs : List ℕ) → AreDistinct (map f xs) → AreDistinct xs
map-distinct f [] d = tt
map-distinct f (x ∷ xs) d = (λ a. d.0 (map-among f x xs a), map-distinct f xs d.1)
  where
    map-among : (f : ℕ → ℕ) (x : ℕ) (xs : List ℕ) → IsAmong x xs → IsAmong (f x) (map f xs)
    map-among f x [] h = absurd h
    map-among f x (y ∷ ys) (inl e) = inl (ap f e)
    map-among f x (y ∷ ys) (inr a) = inr (map-among f x ys a)

pub built-distinct : (a b : Kept) (t : Tree) (s : ℕ) → (r : Built a b t s) → AreDistinct (ids r.built)
built-distinct a b t s r =
    map-distinct (id_at b.slots) (ids r.built)
    (subst AreDistinct (ids-renamed (id_at b.slots) r.built) (subst (λ (n : Node). AreDistinct (ids n)) (sym r.tree) (distinct-with_ids (length a.table) t)))

pub built-live : (a b : Kept) (t : Tree) (s : ℕ) (r : Built a b t s) (x : ℕ) → IsAmong x (ids r.built) → IsLive b.slots x
built-live a b t s r x h = linked-live b.slots r.built x r.linked h

pub built-old : (a b : Kept) (t : Tree) (s : ℕ) (r : Built a b t s) (x : ℕ) → IsLive a.slots x → IsLive b.slots x
built-old a b t s r x h = live-slot-same a.slots b.slots x (r.same x h) h

-- ---- lists of trees

pub sizes-append : (xs : List Tree) (y : Tree) (ys : List Tree) → sizes (trees_of (xs ++ y ∷ ys)) ≡ sizes (trees_of xs) + (size y + sizes (trees_of ys))
sizes-append [] y ys = omega arith
sizes-append (x ∷ xs) y ys = let rest = sizes-append xs y ys in omega (arith, rest)

pub points-append : (xs : List Tree) (y : Tree) (ys : List Tree) → text_sizes (trees_of (xs ++ y ∷ ys)) ≡ text_sizes (trees_of xs) + (text_size y + text_sizes (trees_of ys))
points-append [] y ys = omega arith
points-append (x ∷ xs) y ys = let rest = points-append xs y ys in omega (arith, rest)

pub depths-behind : (xs : List Tree) (y : Tree) (ys : List Tree) → (depth y ≤ depths (trees_of (xs ++ y ∷ ys))) × (depths (trees_of xs) ≤ depths (trees_of (xs ++ y ∷ ys)))
depths-behind [] y ys = (omega arith, omega arith)
depths-behind (x ∷ xs) y ys = let rest = depths-behind xs y ys in (omega (arith, rest.0), omega (arith, rest.1))

with_ids-push : (n : ℕ) (xs : List Tree) (y : Tree) → all_with_ids n (trees_of (xs ++ y ∷ [])) ≡ with_child (length xs) (with_ids (n + sizes (trees_of xs)) y) (all_with_ids n (trees_of xs))
with_ids-push n [] y = ap (λ m. node (with_ids m y) no_nodes) (omega arith)
with_ids-push n (x ∷ xs) y =
    let at : (n + size x) + sizes (trees_of xs) ≡ n + (size x + sizes (trees_of xs)) = omega arith in
    ap (node (with_ids n x)) (with_ids-push (n + size x) xs y ∙ ap (λ m. with_child (length xs) (with_ids m y) (all_with_ids (n + size x) (trees_of xs))) at)

with_ids-length : (n : ℕ) (xs : List Tree) → length (ids_of (all_with_ids n (trees_of xs))) ≡ length xs
with_ids-length n [] = refl
with_ids-length n (x ∷ xs) = ap suc (with_ids-length (n + size x) xs)

pub map-length : (f : ℕ → ℕ) (xs : List ℕ) → length (map f xs) ≡ length xs
map-length f [] = refl
map-length f (x ∷ xs) = ap suc (map-length f xs)

pub take-whole : (xs : List ℕ) → take (length xs) xs ≡ xs
take-whole [] = refl
take-whole (x ∷ xs) = ap (λ ys. x ∷ ys) (take-whole xs)

pub drop-whole : (xs : List ℕ) → drop (length xs) xs ≡ []
drop-whole [] = refl
drop-whole (x ∷ xs) = drop-whole xs

-- ---- slots that no link of a new child is written to

forward-slot : (p j : ℕ) (o : Option ℕ) (to : Link) (slots : List Slot) → (j ≡ p → ⊥) → (o ≡ Some j → ⊥) → slice_get (forward p o to slots) j ≡ slice_get slots j
forward-slot p j None to slots h k = get-changed-other p j (with_first to) slots h
forward-slot p j (Some x) to slots h k = get-changed-other x j (with_next to) slots (λ e. k (ap Some (sym e)))

back-slot : (p j : ℕ) (o : Option ℕ) (to : Link) (slots : List Slot) → (j ≡ p → ⊥) → (o ≡ Some j → ⊥) → slice_get (back p o to slots) j ≡ slice_get slots j
back-slot p j None to slots h k = get-changed-other p j (with_last to) slots h
back-slot p j (Some x) to slots h k = get-changed-other x j (with_prev to) slots (λ e. k (ap Some (sym e)))

pub attached-slot : (slots : List Slot) (p t j : ℕ) (prev next : Link) → (j ≡ p → ⊥) → (j ≡ t → ⊥) → (target prev ≡ Some j → ⊥) → (target next ≡ Some j → ⊥) → slice_get (attached p t prev next slots) j ≡ slice_get slots j
attached-slot slots p t j prev next h i k l =
    let S1 : List Slot = changed t (with_place (link_to p) prev next) slots in
    let S2 : List Slot = forward p (target prev) (link_to t) S1 in
    let S3 : List Slot = back p (target next) (link_to t) S2 in
    get-changed-other p j one_more S3 h ∙ (back-slot p j (target next) (link_to t) S2 h l ∙ (forward-slot p j (target prev) (link_to t) S1 h k ∙ get-changed-other t j (with_place (link_to p) prev next) slots i))

-- ---- one child more

name-with : (f : ℕ → ℕ) (n : ℕ) (name : Text) (attributes : List Attribute) (ts : Trees) (m : Node) → rename f m ≡ with_ids n (elem name attributes ts) → IsSome (name_of m)
name-with f n name attributes ts m e = ap is_some (sym (name_of-renamed f m)) ∙ (ap (λ (x : Node). is_some (name_of x)) e)

top-found : (p : ℕ) (m : Node) → id_of m ≡ p → find p m ≡ Some m
top-found p m e = subst (λ (q : ℕ). find q m ≡ Some m) e (find-top m)

pub children-count : (n : Node) → length (ids_of (children_of n)) ≤ length (ids n)
children-count (element id name attributes children) = let rest = tops-count children in omega (arith, rest)
  where
    tops-count : (ns : Nodes) → length (ids_of ns) ≤ length (all_ids ns)
    tops-count no_nodes = omega arith
    tops-count (node n ns) =
        let rest = tops-count ns in
        omega (arith, rest, length-append (ids n) (all_ids ns), node-length n)
children-count (text id cs) = omega arith

pub built-count : (a b : Kept) (t : Tree) (s : ℕ) (r : Built a b t s) → length (ids r.built) ≤ b.live
built-count a b t s r =
    let same : length (map (id_at b.slots) (ids r.built)) ≡ length (ids (with_ids (length a.table) t)) = ap length (sym (ids-renamed (id_at b.slots) r.built) ∙ ap ids r.tree) in
    omega (arith, same, map-length (id_at b.slots) (ids r.built), node_count-with_ids (length a.table) t, r.live)

child-numbers : (f : ℕ → ℕ) (n : ℕ) (name : Text) (attributes : List Attribute) (ts : List Tree) (m : Node) → rename f m ≡ with_ids n (elem name attributes (trees_of ts)) → length (ids_of (children_of m)) ≡ length ts
child-numbers f n name attributes ts m e =
    sym (map-length f (ids_of (children_of m))) ∙ (ap length (sym (children-renamed f m)) ∙ (ap (λ x. length (ids_of (children_of x))) e ∙ with_ids-length (suc n) ts))

at-top : (f : ℕ → ℕ) (n : ℕ) (name : Text) (attributes : List Attribute) (ts : Trees) (m : Node) (p : ℕ) → id_of m ≡ p → rename f m ≡ with_ids n (elem name attributes ts) → f p ≡ n
at-top f n name attributes ts m p at e = ap f (sym at) ∙ (sym (id_of-renamed f m) ∙ ap id_of e)

with_ids-child : (n : ℕ) (name : Text) (attributes : List Attribute) (ts : List Tree) (t : Tree)
    → tree_after_insert n (length ts) (with_ids (suc n + sizes (trees_of ts)) t) (with_ids n (elem name attributes (trees_of ts))) ≡ with_ids n (elem name attributes (trees_of (ts ++ t ∷ [])))
with_ids-child n name attributes ts t = rw (eq-eqb n n refl) (ap (element n name attributes) (sym (with_ids-push (suc n) ts t)))

pub built-child : (a b c : Kept) (name : Text) (attributes : List Attribute) (ts : List Tree) (t : Tree) (p x : ℕ)
    → Built a b (elem name attributes (trees_of ts)) p → Built b c t x
    → Built a (record c { slots = attached p x (last_link (slice_get c.slots p)) no_link c.slots }) (elem name attributes (trees_of (ts ++ t ∷ []))) p
built-child a b c name attributes ts t p x r s =
    let m : Node = r.built in
    let new : Node = s.built in
    let last : Link = last_link (slice_get c.slots p) in
    let slots : List Slot = attached p x last no_link c.slots in
    let xs : List ℕ = ids_of (children_of m) in
    let f : ℕ → ℕ = id_at c.slots in
    let dm : AreDistinct (ids m) = built-distinct a b _ p r in
    let dn : AreDistinct (ids new) = built-distinct b c t x s in
    let old_live : (j : ℕ) → IsAmong j (ids m) → IsLive b.slots j = λ j h. built-live a b _ p r j h in
    let live : (j : ℕ) → IsAmong j (ids m) → IsLive c.slots j = λ j h. built-old b c t x s j (old_live j h) in
    let new_live : (j : ℕ) → IsAmong j (ids new) → IsLive c.slots j = λ j h. built-live b c t x s j h in
    let apart : AreApart (ids new) (ids m) = λ j h k. s.fresh j h (old_live j k) in
    let lm : AreLinked (cells_of c.slots) m = linked-slots b.slots c.slots m (λ j h. s.same j (old_live j h)) r.linked in
    let p_among : IsAmong p (ids m) = subst (λ (q : ℕ). IsAmong q (ids m)) r.at (among-top m) in
    let x_among : IsAmong x (ids new) = subst (λ (q : ℕ). IsAmong q (ids new)) s.at (among-top new) in
    let fm : find p m ≡ Some m = top-found p m r.at in
    let tree_b : rename f m ≡ with_ids (length a.table) (elem name attributes (trees_of ts)) =
    rename-same f (id_at b.slots) m (λ j h. id-slot b.slots c.slots j (s.same j (old_live j h))) ∙ r.tree in
    let named : IsSome (name_of m) = name-with f (length a.table) name attributes (trees_of ts) m tree_b in
    let body : body_at c.slots p ≡ Some (body_of m) = ap (body_at c.slots) (sym r.at) ∙ (lm p m fm).0 in
    let slot = slot-of-body c.slots p (body_of m) body in
    let is_last : target last ≡ final None xs = ap (λ o. target (last_link o)) slot.1 ∙ (body-parts p slot.0 (body_of m) slot.2).2 in
    let child : (j : ℕ) → final None xs ≡ Some j → IsAmong j (ids m) = λ j e. child-below j m (end-among j xs e) in
    let not_x : (j : ℕ) → IsAmong j (ids m) → j ≡ x → ⊥ = λ j h e. apart x x_among (subst (λ (q : ℕ). IsAmong q (ids m)) e h) in
    let not_prev : target last ≡ Some x → ⊥ = λ e. not_x x (child x (sym is_last ∙ e)) refl in
    let whole : length (ids m) ≤ b.live = built-count a b _ p r in
    let few : length xs < 4294967295 = omega (arith, children-count m, whole, s.live, s.store.count, s.store.few) in
    let k : ℕ = length xs in
    let writes : Attaches (cells_of c.slots) (cells_of slots) p k new m =
    attaches c.slots p x k last no_link new m (sym s.at) (live-within c.slots x (new_live x x_among)) (live-small c x s.store (new_live x x_among)) (live-small c p s.store (live p p_among)) few
    (is_last ∙ ap (final None) (sym (take-whole xs))) (ap (λ ys. front ys None) (sym (drop-whole xs))) body
    (λ j h. not_x j (child-below j m h)) (children-distinct m dm) in
    let all : AreLinked (cells_of slots) (tree_after_insert p k new m) = linked-attached (cells_of c.slots) (cells_of slots) m new m p k dm dn apart fm named writes lm s.linked in
    let relinked : Relinked c.slots slots = relinked-attached c.slots p x last no_link in
    let g : ℕ → ℕ = id_at slots in
    let fits : FitsBelow p new m = record { distinct = dm; new_distinct = dn; apart = apart; element = ap (λ o. is_some (option_and_then name_of o)) fm ∙ named } in
    let spliced = spliced-inserted p k new m fits in
    let alone : IsAlone f p (ids m) = alone-live c p (ids m) s.store (live p p_among) live in
    let same_ids : rename g (tree_after_insert p k new m) ≡ rename f (tree_after_insert p k new m) = rename-same g f (tree_after_insert p k new m) (λ j h. relinked.ids j) in
    let count : k ≡ length ts = child-numbers f (length a.table) name attributes ts m tree_b in
    let given : length b.table ≡ suc (length a.table) + sizes (trees_of ts) = omega (arith, r.given) in
    let place_p : place_at slots p ≡ place_at c.slots p =
    writes.hooks.others p (λ e. not_x p p_among (e ∙ s.at)) (λ e. child-lower p p m m dm fm (among-take p k xs (end-among p (take k xs) e)) (sym r.at))
    (λ e. child-lower p p m m dm fm (among-drop p k xs (front-among p (drop k xs) e)) (sym r.at)) in
    record {
      store = store-relinked c slots relinked s.store;
      built = tree_after_insert p k new m;
      at = id_of-inserted p k new m ∙ r.at;
      linked = all;
      top = place_p ∙ (place-slot b.slots c.slots p (s.same p (old_live p p_among)) ∙ r.top);
      tree =
          same_ids ∙ (inserted-renamed f p k new m alone
          ∙ ((λ j. tree_after_insert (at-top f (length a.table) name attributes (trees_of ts) m p r.at tree_b j) (count j) ((s.tree ∙ ap (λ n. with_ids n t) given) j) (tree_b j))
          ∙ with_ids-child (length a.table) name attributes ts t));
      fresh = λ j h l. elim (spliced-among j (ids (tree_after_insert p k new m)) (ids new) (ids m) spliced h) [
        | inl q ↦ s.fresh j q (built-old a b _ p r j l)
        | inr q ↦ r.fresh j q l
      ];
      same = λ j l.
          let out_m : IsAmong j (ids m) → ⊥ = λ q. r.fresh j q l in
          let out_n : IsAmong j (ids new) → ⊥ = λ q. s.fresh j q (built-old a b _ p r j l) in
          attached-slot c.slots p x j last no_link (λ e. out_m (subst (λ (q : ℕ). IsAmong q (ids m)) (sym e) p_among)) (λ e. out_n (subst (λ (q : ℕ). IsAmong q (ids new)) (sym e) x_among))
          (λ e. out_m (child j (sym is_last ∙ e))) (λ e. none-some j e)
          ∙ (s.same j (built-old a b _ p r j l) ∙ r.same j l);
      only = λ j l.
          let was : IsLive c.slots j = live-same slots c.slots j (sym (relinked.contents j)) l in
          elim (s.only j was) [
            | inl q ↦ elim (r.only j q) [
              | inl v ↦ inl v
              | inr v ↦ inr (spliced-rest j (ids (tree_after_insert p k new m)) (ids new) (ids m) spliced v)
            ]
            | inr q ↦ inr (spliced-part j (ids (tree_after_insert p k new m)) (ids new) (ids m) spliced q)
          ];
      given = s.given ∙ omega (arith, r.given, sizes-append ts t []);
      live = omega (arith, r.live, s.live, sizes-append ts t []);
      code_points = omega (arith, r.code_points, s.code_points, points-append ts t []);
    }

-- ---- where memory runs out

pub restored-same : (a b : Kept) → IsStore a → b ≡ a → Restored a b
restored-same a b s e = subst (Restored a) (sym e) (record {
  store = s;
  same = λ x h. refl;
  only = λ x h. h;
  given = omega arith;
  live = refl;
  code_points = refl;
})

-- the room of an element is enough for its next child
pub child-fits : (a b : Kept) (name : Text) (attributes : List Attribute) (xs : List Tree) (y : Tree) (ys : List Tree) (p : ℕ)
    → Built a b (elem name attributes (trees_of xs)) p
    → a.live + size (elem name attributes (trees_of (xs ++ y ∷ ys))) ≤ MAX_NODES
    → length a.table + size (elem name attributes (trees_of (xs ++ y ∷ ys))) ≤ MAX_IDS
    → a.code_points + text_size (elem name attributes (trees_of (xs ++ y ∷ ys))) ≤ MAX_TEXTS
    → depth (elem name attributes (trees_of (xs ++ y ∷ ys))) ≤ MAX_DEPTH
    → IsStore b × ((b.live + size y ≤ MAX_NODES) × ((length b.table + size y ≤ MAX_IDS) × ((b.code_points + text_size y ≤ MAX_TEXTS) × (depth y ≤ MAX_DEPTH))))
child-fits a b name attributes xs y ys p r nodes given points low =
    let deep = depths-behind xs y ys in (
      r.store,
      (
        omega (arith, nodes, r.live, sizes-append xs y ys),
        (
          omega (arith, given, r.given, sizes-append xs y ys),
          (omega (arith, points, r.code_points, points-append xs y ys), omega (arith, low, deep.0)),
        ),
      ),
    )

-- what was built can be released, also after a later tree was given up
pub built-branch : (a b c : Kept) (t : Tree) (s levels : ℕ) (r : Built a b t s) → Restored b c → depth t ≤ levels → IsBranch c s levels r.built
built-branch a b c t s levels r g low =
    let f : ℕ → ℕ = id_at b.slots in
    let plain : without_ids r.built ≡ t = sym (without-renamed f r.built) ∙ (ap without_ids r.tree ∙ without-with_ids (length a.table) t) in
    let high : height r.built ≡ depth t = sym (height-renamed f r.built) ∙ (ap height r.tree ∙ height-with_ids (length a.table) t) in
    let points : text_size (without_ids r.built) ≡ text_size t = ap text_size plain in
    record {
      store = g.store;
      linked = linked-slots b.slots c.slots r.built (λ j h. g.same j (built-live a b t s r j h)) r.linked;
      distinct = built-distinct a b t s r;
      at = r.at;
      low = omega (arith, low, high);
      live = omega (arith, built-count a b t s r, g.live);
      code_points = omega (arith, points, g.code_points, r.code_points);
    }

-- after the release all is as before the building, besides the ids that were given
pub restored-released : (a b c d : Kept) (t : Tree) (s levels : ℕ) (r : Built a b t s) → Restored b c → depth t ≤ levels
    → ((n : Node) → IsBranch c s levels n → Released c d (ids n) (text_size (without_ids n))) → Restored a d
restored-released a b c d t s levels r g low release =
    let f : ℕ → ℕ = id_at b.slots in
    let gone : Released c d (ids r.built) (text_size (without_ids r.built)) = release r.built (built-branch a b c t s levels r g low) in
    let plain : without_ids r.built ≡ t = sym (without-renamed f r.built) ∙ (ap without_ids r.tree ∙ without-with_ids (length a.table) t) in
    let points : text_size (without_ids r.built) ≡ text_size t = ap text_size plain in
    let number : length (ids r.built) ≡ size t = sym (map-length f (ids r.built)) ∙ (ap length (sym (ids-renamed f r.built) ∙ ap ids r.tree) ∙ node_count-with_ids (length a.table) t) in
    record {
      store = gone.store;
      same = λ x h. gone.others x (λ k. r.fresh x k h) ∙ (g.same x (built-old a b t s r x h) ∙ r.same x h);
      only = λ x h.
          let out : IsAmong x (ids r.built) → ⊥ = λ k. gone.gone x k h in
          elim (r.only x (g.only x (live-slot-same d.slots c.slots x (sym (gone.others x out)) h))) [
            | inl k ↦ k
            | inr k ↦ absurd (out k)
          ];
      given = omega (arith, gone.given, g.given, r.given);
      live = omega (arith, gone.live, g.live, r.live, number);
      code_points = omega (arith, gone.code_points, g.code_points, r.code_points, points);
    }
