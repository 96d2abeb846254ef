-- A tree under other ids.
use Rattle.std.proofs.Common.{Bool, List, None, Option, Some, [], ap, ap₂, cond, eq-eqb, eqb-true, false, inl, inr, map, max, ne_eqb, option_map, refl, suc, sym, true, zero, ℕ, ◌++◌, ◌==◌, ◌∙◌, ◌∷◌, ◌≡◌}
use Rattle.std.proofs.lemmas.Bool.{cases_Bool, eqb-false}
use Rattle.std.proofs.lemmas.List.{map-append}
use Rattle.dom_arena.specs.Rename.{IsAlone, all_renamed, rename}
use Rattle.page_laws.proofs.Find.{among-children, among-top}
use Rattle.page_laws.proofs.IsAmong.{among-left, among-right}
use Rattle.page_laws.proofs.Options.{none-or-some, or-map}
use Rattle.page_model.specs.Document.{IsAmong, Node, Nodes, after, all_ids, all_without_ids, before, child_ids, children_of, element, find, find_in, first, height, heights, id_of, ids, ids_of, is_among, name_of, no_nodes, node, or_else, parent_below, parent_in, parent_of, text, without_ids}
use Rattle.page_model.specs.Edits.{level, level_in, nodes_after_change, nodes_after_insert, nodes_after_remove, tree_after_change, tree_after_insert, tree_after_remove, with_child}
use Rattle.page_model.specs.Trees.{Attribute, Text, elem, tree}

pub id_of-renamed : (f : ℕ → ℕ) (n : Node) → id_of (rename f n) ≡ f (id_of n)
id_of-renamed f (element id name attributes children) = refl
id_of-renamed f (text id cs) = refl

pub name_of-renamed : (f : ℕ → ℕ) (n : Node) → name_of (rename f n) ≡ name_of n
name_of-renamed f (element id name attributes children) = refl
name_of-renamed f (text id cs) = refl

mutual
  pub without-renamed : (f : ℕ → ℕ) (n : Node) → without_ids (rename f n) ≡ without_ids n
  without-renamed f (element id name attributes children) = ap (elem name attributes) (all_without-renamed f children)
  without-renamed f (text id cs) = refl

  pub all_without-renamed : (f : ℕ → ℕ) (ns : Nodes) → all_without_ids (all_renamed f ns) ≡ all_without_ids ns
  all_without-renamed f no_nodes = refl
  all_without-renamed f (node n ns) = λ j. tree (without-renamed f n j) (all_without-renamed f ns j)

mutual
  pub height-renamed : (f : ℕ → ℕ) (n : Node) → height (rename f n) ≡ height n
  height-renamed f (element id name attributes children) = ap suc (heights-renamed f children)
  height-renamed f (text id cs) = refl

  pub heights-renamed : (f : ℕ → ℕ) (ns : Nodes) → heights (all_renamed f ns) ≡ heights ns
  heights-renamed f no_nodes = refl
  heights-renamed f (node n ns) = λ j. max (height-renamed f n j) (heights-renamed f ns j)

mutual
  pub ids-renamed : (f : ℕ → ℕ) (n : Node) → ids (rename f n) ≡ map f (ids n)
  ids-renamed f (element id name attributes children) = ap (λ (xs : List ℕ). f id ∷ xs) (all_ids-renamed f children)
  ids-renamed f (text id cs) = refl

  pub all_ids-renamed : (f : ℕ → ℕ) (ns : Nodes) → all_ids (all_renamed f ns) ≡ map f (all_ids ns)
  all_ids-renamed f no_nodes = refl
  all_ids-renamed f (node n ns) = ap₂ (λ (xs ys : List ℕ). xs ++ ys) (ids-renamed f n) (all_ids-renamed f ns) ∙ sym (map-append f (ids n) (all_ids ns))

pub ids_of-renamed : (f : ℕ → ℕ) (ns : Nodes) → ids_of (all_renamed f ns) ≡ map f (ids_of ns)
ids_of-renamed f no_nodes = refl
ids_of-renamed f (node n ns) = λ j. id_of-renamed f n j ∷ ids_of-renamed f ns j

-- where two functions give the same, so do the trees
mutual
  pub rename-same : (f g : ℕ → ℕ) (n : Node) → ((x : ℕ) → IsAmong x (ids n) → f x ≡ g x) → rename f n ≡ rename g n
  rename-same f g (element id name attributes children) h = λ j. element (h id (inl refl) j) name attributes (all_rename-same f g children (λ x a. h x (inr a)) j)
  rename-same f g (text id cs) h = λ j. text (h id (inl refl) j) cs

  pub all_rename-same : (f g : ℕ → ℕ) (ns : Nodes) → ((x : ℕ) → IsAmong x (all_ids ns) → f x ≡ g x) → all_renamed f ns ≡ all_renamed g ns
  all_rename-same f g no_nodes h = refl
  all_rename-same f g (node n ns) h = λ j. node
      (rename-same f g n (λ x a. h x (among-left x (ids n) (all_ids ns) a)) j)
      (all_rename-same f g ns (λ x a. h x (among-right x (ids n) (all_ids ns) a)) j)

-- ---- an id that no other node gets

pub alone-test : (f : ℕ → ℕ) (x y : ℕ) → (f y ≡ f x → y ≡ x) → (f x == f y) ≡ (x == y)
alone-test f x y h = elim (cases_Bool (x == y)) [
  | inl t ↦ eq-eqb (f x) (f y) (ap f (eqb-true x y t)) ∙ sym t
  | inr o ↦ ne_eqb (f x) (f y) (λ e. eqb-false x y o (sym (h (sym e)))) ∙ sym o
]

pub alone-here : (f : ℕ → ℕ) (x y : ℕ) (ys : List ℕ) → IsAlone f x (y ∷ ys) → (f x == f y) ≡ (x == y)
alone-here f x y ys h = alone-test f x y (h y (inl refl))

pub alone-rest : (f : ℕ → ℕ) (x y : ℕ) (ys : List ℕ) → IsAlone f x (y ∷ ys) → IsAlone f x ys
alone-rest f x y ys h = λ z a. h z (inr a)

pub alone-left : (f : ℕ → ℕ) (x : ℕ) (xs ys : List ℕ) → IsAlone f x (xs ++ ys) → IsAlone f x xs
alone-left f x xs ys h = λ z a. h z (among-left z xs ys a)

pub alone-right : (f : ℕ → ℕ) (x : ℕ) (xs ys : List ℕ) → IsAlone f x (xs ++ ys) → IsAlone f x ys
alone-right f x xs ys h = λ z a. h z (among-right z xs ys a)

-- ---- what is found

map-if : (f : ℕ → ℕ) (b : Bool) (n : Node) (o : Option Node) → cond b (Some (rename f n)) (option_map (rename f) o) ≡ option_map (rename f) (cond b (Some n) o)
map-if f true n o = refl
map-if f false n o = refl

mutual
  pub find-renamed : (f : ℕ → ℕ) (x : ℕ) (n : Node) → IsAlone f x (ids n) → find (f x) (rename f n) ≡ option_map (rename f) (find x n)
  find-renamed f x (element id name attributes children) h =
      rw (alone-here f x id (all_ids children) h, find_in-renamed f x children (alone-rest f x id (all_ids children) h)) (map-if f (x == id) (element id name attributes children) (find_in x children))
  find-renamed f x (text id cs) h = rw (alone-here f x id [] h) (map-if f (x == id) (text id cs) None)

  pub find_in-renamed : (f : ℕ → ℕ) (x : ℕ) (ns : Nodes) → IsAlone f x (all_ids ns) → find_in (f x) (all_renamed f ns) ≡ option_map (rename f) (find_in x ns)
  find_in-renamed f x no_nodes h = refl
  find_in-renamed f x (node n ns) h =
      rw (find-renamed f x n (alone-left f x (ids n) (all_ids ns) h), find_in-renamed f x ns (alone-right f x (ids n) (all_ids ns) h)) (or-map (rename f) (find x n) (find_in x ns))

pub is_among-renamed : (f : ℕ → ℕ) (x : ℕ) (ys : List ℕ) → IsAlone f x ys → is_among (f x) (map f ys) ≡ is_among x ys
is_among-renamed f x [] h = refl
is_among-renamed f x (y ∷ ys) h = rw (alone-here f x y ys h, is_among-renamed f x ys (alone-rest f x y ys h)) refl

tops-alone : (f : ℕ → ℕ) (x : ℕ) (ns : Nodes) → IsAlone f x (all_ids ns) → IsAlone f x (ids_of ns)
tops-alone f x ns h = λ y a. h y (among-children y ns a)

mutual
  pub parent_in-renamed : (f : ℕ → ℕ) (x : ℕ) (n : Node) → IsAlone f x (ids n) → parent_in (f x) (rename f n) ≡ option_map (rename f) (parent_in x n)
  parent_in-renamed f x (element id name attributes children) h =
      let below : IsAlone f x (all_ids children) = alone-rest f x id (all_ids children) h in
      rw (ids_of-renamed f children, is_among-renamed f x (ids_of children) (tops-alone f x children below), parent_below-renamed f x children below)
      (map-if f (is_among x (ids_of children)) (element id name attributes children) (parent_below x children))
  parent_in-renamed f x (text id cs) h = refl

  pub parent_below-renamed : (f : ℕ → ℕ) (x : ℕ) (ns : Nodes) → IsAlone f x (all_ids ns) → parent_below (f x) (all_renamed f ns) ≡ option_map (rename f) (parent_below x ns)
  parent_below-renamed f x no_nodes h = refl
  parent_below-renamed f x (node n ns) h =
      rw (parent_in-renamed f x n (alone-left f x (ids n) (all_ids ns) h), parent_below-renamed f x ns (alone-right f x (ids n) (all_ids ns) h)) (or-map (rename f) (parent_in x n) (parent_below x ns))

pub first-renamed : (f : ℕ → ℕ) (xs : List ℕ) → first (map f xs) ≡ option_map f (first xs)
first-renamed f [] = refl
first-renamed f (x ∷ xs) = refl

map-if-id : (f : ℕ → ℕ) (b : Bool) (o p : Option ℕ) → cond b (option_map f o) (option_map f p) ≡ option_map f (cond b o p)
map-if-id f true o p = refl
map-if-id f false o p = refl

pub after-renamed : (f : ℕ → ℕ) (x : ℕ) (ys : List ℕ) → IsAlone f x ys → after (f x) (map f ys) ≡ option_map f (after x ys)
after-renamed f x [] h = refl
after-renamed f x (y ∷ ys) h = rw (alone-here f x y ys h, first-renamed f ys, after-renamed f x ys (alone-rest f x y ys h)) (map-if-id f (x == y) (first ys) (after x ys))

pub before-renamed : (f : ℕ → ℕ) (x : ℕ) (last : Option ℕ) (ys : List ℕ) → IsAlone f x ys → before (f x) (option_map f last) (map f ys) ≡ option_map f (before x last ys)
before-renamed f x last [] h = refl
before-renamed f x last (y ∷ ys) h = rw (alone-here f x y ys h, before-renamed f x (Some y) ys (alone-rest f x y ys h)) (map-if-id f (x == y) last (before x (Some y) ys))

pub children-renamed : (f : ℕ → ℕ) (n : Node) → ids_of (children_of (rename f n)) ≡ map f (ids_of (children_of n))
children-renamed f (element id name attributes children) = ids_of-renamed f children
children-renamed f (text id cs) = refl

pub parent_of-renamed : (f : ℕ → ℕ) (x : ℕ) (n : Node) → IsAlone f x (ids n) → parent_of (f x) (rename f n) ≡ option_map f (parent_of x n)
parent_of-renamed f x n h = elim (none-or-some (parent_in x n)) [
  | inl none ↦ let at : parent_in (f x) (rename f n) ≡ None = parent_in-renamed f x n h ∙ ap (option_map (rename f)) none in rw (at, none) refl
  | inr some ↦ let at : parent_in (f x) (rename f n) ≡ Some (rename f some.0) = parent_in-renamed f x n h ∙ ap (option_map (rename f)) some.1 in rw (at, some.1) (ap Some (id_of-renamed f some.0))
]

pub child_ids-renamed : (f : ℕ → ℕ) (x : ℕ) (n : Node) → IsAlone f x (ids n) → child_ids (f x) (rename f n) ≡ map f (child_ids x n)
child_ids-renamed f x n h = elim (none-or-some (find x n)) [
  | inl none ↦ let at : find (f x) (rename f n) ≡ None = find-renamed f x n h ∙ ap (option_map (rename f)) none in rw (at, none) refl
  | inr some ↦ let at : find (f x) (rename f n) ≡ Some (rename f some.0) = find-renamed f x n h ∙ ap (option_map (rename f)) some.1 in rw (at, some.1) (children-renamed f some.0)
]

-- ---- edits

all-with_child : (f : ℕ → ℕ) (k : ℕ) (new : Node) (ns : Nodes) → all_renamed f (with_child k new ns) ≡ with_child k (rename f new) (all_renamed f ns)
all-with_child f zero new ns = refl
all-with_child f (suc k) new no_nodes = refl
all-with_child f (suc k) new (node n ns) = ap (node (rename f n)) (all-with_child f k new ns)

all-if : (f : ℕ → ℕ) (b : Bool) (ns ms : Nodes) → all_renamed f (cond b ns ms) ≡ cond b (all_renamed f ns) (all_renamed f ms)
all-if f true ns ms = refl
all-if f false ns ms = refl

mutual
  pub inserted-renamed : (f : ℕ → ℕ) (p k : ℕ) (new n : Node) → IsAlone f p (ids n) → rename f (tree_after_insert p k new n) ≡ tree_after_insert (f p) k (rename f new) (rename f n)
  inserted-renamed f p k new (element id name attributes children) h =
      ap (element (f id) name attributes)
      (all-if f (p == id) (with_child k new children) (nodes_after_insert p k new children)
      ∙ λ j. cond (sym (alone-here f p id (all_ids children) h) j) (all-with_child f k new children j) (nodes_inserted-renamed f p k new children (alone-rest f p id (all_ids children) h) j))
  inserted-renamed f p k new (text id cs) h = refl

  pub nodes_inserted-renamed : (f : ℕ → ℕ) (p k : ℕ) (new : Node) (ns : Nodes) → IsAlone f p (all_ids ns) → all_renamed f (nodes_after_insert p k new ns) ≡ nodes_after_insert (f p) k (rename f new) (all_renamed f ns)
  nodes_inserted-renamed f p k new no_nodes h = refl
  nodes_inserted-renamed f p k new (node n ns) h = λ j. node
      (inserted-renamed f p k new n (alone-left f p (ids n) (all_ids ns) h) j)
      (nodes_inserted-renamed f p k new ns (alone-right f p (ids n) (all_ids ns) h) j)

mutual
  pub removed-renamed : (f : ℕ → ℕ) (x : ℕ) (n : Node) → IsAlone f x (ids n) → rename f (tree_after_remove x n) ≡ tree_after_remove (f x) (rename f n)
  removed-renamed f x (element id name attributes children) h = ap (element (f id) name attributes) (nodes_removed-renamed f x children (alone-rest f x id (all_ids children) h))
  removed-renamed f x (text id cs) h = refl

  pub nodes_removed-renamed : (f : ℕ → ℕ) (x : ℕ) (ns : Nodes) → IsAlone f x (all_ids ns) → all_renamed f (nodes_after_remove x ns) ≡ nodes_after_remove (f x) (all_renamed f ns)
  nodes_removed-renamed f x no_nodes h = refl
  nodes_removed-renamed f x (node n ns) h =
      let top : (f x == id_of (rename f n)) ≡ (x == id_of n) =
      ap (λ y. f x == y) (id_of-renamed f n) ∙ alone-test f x (id_of n) (h (id_of n) (among-left (id_of n) (ids n) (all_ids ns) (among-top n))) in
      let rest = nodes_removed-renamed f x ns (alone-right f x (ids n) (all_ids ns) h) in
      let first = removed-renamed f x n (alone-left f x (ids n) (all_ids ns) h) in
      all-if f (x == id_of n) (nodes_after_remove x ns) (node (tree_after_remove x n) (nodes_after_remove x ns))
      ∙ λ j. cond (sym top j) (rest j) (node (first j) (rest j))

mutual
  pub changed-renamed : (f : ℕ → ℕ) (x : ℕ) (a : List Attribute → List Attribute) (c : Text → Text) (n : Node) → IsAlone f x (ids n) → rename f (tree_after_change x a c n) ≡ tree_after_change (f x) a c (rename f n)
  changed-renamed f x a c (element id name attributes children) h = λ j. element (f id) name
      (cond (sym (alone-here f x id (all_ids children) h) j) (a attributes) attributes)
      (nodes_changed-renamed f x a c children (alone-rest f x id (all_ids children) h) j)
  changed-renamed f x a c (text id cs) h = λ j. text (f id) (cond (sym (alone-here f x id [] h) j) (c cs) cs)

  pub nodes_changed-renamed : (f : ℕ → ℕ) (x : ℕ) (a : List Attribute → List Attribute) (c : Text → Text) (ns : Nodes) → IsAlone f x (all_ids ns) → all_renamed f (nodes_after_change x a c ns) ≡ nodes_after_change (f x) a c (all_renamed f ns)
  nodes_changed-renamed f x a c no_nodes h = refl
  nodes_changed-renamed f x a c (node n ns) h = λ j. node
      (changed-renamed f x a c n (alone-left f x (ids n) (all_ids ns) h) j)
      (nodes_changed-renamed f x a c ns (alone-right f x (ids n) (all_ids ns) h) j)

-- ---- levels

map-level : (b : Bool) (o : Option ℕ) (p : Option ℕ) → o ≡ p → cond b (Some 1) (option_map (λ l. suc l) o) ≡ cond b (Some 1) (option_map (λ l. suc l) p)
map-level b o p e = ap (λ q. cond b (Some 1) (option_map (λ l. suc l) q)) e

mutual
  pub level-renamed : (f : ℕ → ℕ) (x : ℕ) (n : Node) → IsAlone f x (ids n) → level (f x) (rename f n) ≡ level x n
  level-renamed f x (element id name attributes children) h =
      rw (alone-here f x id (all_ids children) h) (map-level (x == id) (level_in (f x) (all_renamed f children)) (level_in x children) (level_in-renamed f x children (alone-rest f x id (all_ids children) h)))
  level-renamed f x (text id cs) h = rw (alone-here f x id [] h) refl

  pub level_in-renamed : (f : ℕ → ℕ) (x : ℕ) (ns : Nodes) → IsAlone f x (all_ids ns) → level_in (f x) (all_renamed f ns) ≡ level_in x ns
  level_in-renamed f x no_nodes h = refl
  level_in-renamed f x (node n ns) h = λ j. or_else (level-renamed f x n (alone-left f x (ids n) (all_ids ns) h) j) (level_in-renamed f x ns (alone-right f x (ids n) (all_ids ns) h) j)
