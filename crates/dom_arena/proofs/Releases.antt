-- The release of trees.
use Rattle.std.proofs.Common.{List, None, Option, Some, [], ap, append-nil, append_assoc, arith, eqb-true, inl, inr, is_some, length, length-append, option_and_then, option_map, refl, slice_get, slice_set, subst, suc, sym, unwrap_or, ℕ, ◌++◌, ◌+◌, ◌<◌, ◌==◌, ◌∙◌, ◌∷◌, ◌≡◌, ◌≤◌, ◌⊎◌}
use Rattle.std.proofs.lemmas.Bool.{cases_Bool, eqb-false}
use Rattle.std.proofs.lemmas.Option.{none-some, same_Some}
use Rattle.dom_arena.proofs.Found.{find-children}
use Rattle.dom_arena.proofs.Kept.{free-dead, live-slot-same, live-within, store-without}
use Rattle.dom_arena.proofs.Lists.{get-set-other, get-set-same, get-some, length-slice_set}
use Rattle.dom_arena.proofs.Moved.{linked-same}
use Rattle.dom_arena.proofs.Written.{body-parts, body-read, body-unread}
use Rattle.dom_arena.specs.Built.{AreAllLinked, AreBranches, IsBranch, Released, after_in, count_in, first_in}
use Rattle.dom_arena.specs.Cells.{AreChained, AreLinked, Body, Cells, IsLinked, Place, body_of, front}
use Rattle.dom_arena.specs.Found.{AreFound}
use Rattle.dom_arena.specs.Slots.{IsLive, body_at, body_in, cells_of, child_number, first_link, id_at, own_in, place_at, place_in, target}
use Rattle.dom_arena.specs.Stores.{Kept, freed, kept_without, no_link, size_in, slots_without}
use Rattle.page_laws.proofs.Find.{among-find, among-top, find-id, find-top, find-within, some-among}
use Rattle.page_laws.proofs.IsAmong.{among-left, among-right, among-split, distinct-apart, distinct-left, distinct-right}
use Rattle.page_laws.proofs.Options.{none-or-some, some-is}
use Rattle.page_laws.specs.Limits.{own_text_size}
use Rattle.page_model.specs.Document.{AreDistinct, IsAmong, Node, Nodes, all_ids, all_without_ids, children_of, element, find, first, height, heights, id_of, ids, ids_of, no_nodes, node, nodes_of, text, without_ids}
use Rattle.page_model.specs.Trees.{text_size, text_sizes}
use Rattle.dom_arena.specs.declared.link.Link.{Link}
use Rattle.dom_arena.specs.declared.slot.Slot.{Slot}

-- ---- siblings

all_ids-append : (xs ys : List Node) → all_ids (nodes_of (xs ++ ys)) ≡ all_ids (nodes_of xs) ++ all_ids (nodes_of ys)
all_ids-append [] ys = refl
all_ids-append (x ∷ xs) ys = ap (λ zs. ids x ++ zs) (all_ids-append xs ys) ∙ sym (append_assoc (ids x) (all_ids (nodes_of xs)) (all_ids (nodes_of ys)))

ids_of-append : (xs ys : List Node) → ids_of (nodes_of (xs ++ ys)) ≡ ids_of (nodes_of xs) ++ ids_of (nodes_of ys)
ids_of-append [] ys = refl
ids_of-append (x ∷ xs) ys = ap (λ zs. id_of x ∷ zs) (ids_of-append xs ys)

text_sizes-append : (xs ys : List Node) → text_sizes (all_without_ids (nodes_of (xs ++ ys))) ≡ text_sizes (all_without_ids (nodes_of xs)) + text_sizes (all_without_ids (nodes_of ys))
text_sizes-append [] ys = omega arith
text_sizes-append (x ∷ xs) ys = let rest = text_sizes-append xs ys in omega (arith, rest)

heights-behind : (xs : List Node) (y : Node) (ys : List Node) (levels : ℕ) → heights (nodes_of (xs ++ y ∷ ys)) ≤ levels → height y ≤ levels
heights-behind [] y ys levels h = omega (arith, h)
heights-behind (x ∷ xs) y ys levels h = heights-behind xs y ys levels (omega (arith, h))

linked-behind : (c : Cells) (xs : List Node) (y : Node) (ys : List Node) → AreAllLinked c (xs ++ y ∷ ys) → AreLinked c y
linked-behind c [] y ys h = h.0
linked-behind c (x ∷ xs) y ys h = linked-behind c xs y ys h.1

-- ---- what was linked is linked where its slots are the same

pub place-slot : (old new : List Slot) (x : ℕ) → slice_get new x ≡ slice_get old x → place_at new x ≡ place_at old x
place-slot old new x e = ap (option_map place_in) e

pub body-slot : (old new : List Slot) (x : ℕ) → slice_get new x ≡ slice_get old x → body_at new x ≡ body_at old x
body-slot old new x e = ap (option_and_then (body_in x)) e

pub id-slot : (old new : List Slot) (x : ℕ) → slice_get new x ≡ slice_get old x → id_at new x ≡ id_at old x
id-slot old new x e = ap (λ o. unwrap_or (option_map (λ (s : Slot). s.id) o) 0) e

pub linked-slots : (old new : List Slot) (n : Node) → ((x : ℕ) → IsAmong x (ids n) → slice_get new x ≡ slice_get old x) → AreLinked (cells_of old) n → AreLinked (cells_of new) n
linked-slots old new n same h = linked-same (cells_of old) (cells_of new) n (λ j a. place-slot old new j (same j a)) (λ j a. body-slot old new j (same j a)) h

-- the nodes of a linked tree live
pub linked-live : (slots : List Slot) (n : Node) (x : ℕ) → AreLinked (cells_of slots) n → IsAmong x (ids n) → IsLive slots x
linked-live slots n x h a =
    let m = some-is (find x n) (among-find x n a) in
    let e : x ≡ id_of m.0 = find-id x n m.0 m.1 in
    ap is_some (ap (body_at slots) e ∙ (h x m.0 m.1).0)

-- ---- one sibling more

abbrev pub Going : Kept → Kept → Option ℕ → ℕ → List Node → Type 0
Going old new at index ns =
    (done : List Node) × ((rest : List Node) × (ns ≡ done ++ rest) × (length done ≡ index) × (at ≡ front (ids_of (nodes_of rest)) None)
    × Released old new (all_ids (nodes_of done)) (text_sizes (all_without_ids (nodes_of done))))

pub going-none : (k : Kept) (at : Option ℕ) (levels : ℕ) (ns : List Node) → AreBranches k at levels ns → Going k k at 0 ns
going-none k at levels ns b = (
  [],
  (
    ns,
    refl,
    refl,
    b.first,
    record {
      store = b.store;
      gone = λ x a h. a;
      others = λ x a. refl;
      given = refl;
      live = omega arith;
      code_points = omega arith;
    },
  ),
)

-- the tree that is released next
pub going-branch : (old new : Kept) (first at : Option ℕ) (levels x : ℕ) (done : List Node) (y : Node) (ys : List Node) → AreBranches old first levels (done ++ y ∷ ys)
    → Released old new (all_ids (nodes_of done)) (text_sizes (all_without_ids (nodes_of done))) → at ≡ front (ids_of (nodes_of (y ∷ ys))) None → at ≡ Some x → IsBranch new x levels y
going-branch old new first at levels x done y ys b r e is =
    let d : AreDistinct (all_ids (nodes_of done) ++ (ids y ++ all_ids (nodes_of ys))) = subst AreDistinct (all_ids-append done (y ∷ ys)) b.distinct in
    let apart : (z : ℕ) → IsAmong z (ids y) → IsAmong z (all_ids (nodes_of done)) → ⊥ = λ z a c.
    distinct-apart z (all_ids (nodes_of done)) (ids y ++ all_ids (nodes_of ys)) d c (among-left z (ids y) (all_ids (nodes_of ys)) a) in
    let own : AreDistinct (ids y) = distinct-left (ids y) (all_ids (nodes_of ys)) (distinct-right (all_ids (nodes_of done)) (ids y ++ all_ids (nodes_of ys)) d) in
    let count : length (all_ids (nodes_of (done ++ y ∷ ys))) ≡ length (all_ids (nodes_of done)) + length (ids y ++ all_ids (nodes_of ys)) =
    ap length (all_ids-append done (y ∷ ys)) ∙ length-append (all_ids (nodes_of done)) (ids y ++ all_ids (nodes_of ys)) in
    let some : length (ids y ++ all_ids (nodes_of ys)) ≡ length (ids y) + length (all_ids (nodes_of ys)) = length-append (ids y) (all_ids (nodes_of ys)) in
    record {
      store = r.store;
      linked = linked-slots old.slots new.slots y (λ z a. r.others z (apart z a)) (linked-behind (cells_of old.slots) done y ys b.linked);
      distinct = own;
      at = same_Some (id_of y) x (sym e ∙ is);
      low = heights-behind done y ys levels b.low;
      live = omega (arith, b.live, r.live, count, some);
      code_points = omega (arith, b.code_points, r.code_points, text_sizes-append done (y ∷ ys));
    }

after-place : (o : Option Place) (p : Place) → o ≡ Some p → after_in o ≡ p.after
after-place o p e = ap after_in e

chain-after : (place : ℕ → Option Place) (up : ℕ) (last : Option ℕ) (xs : List ℕ) (y : ℕ) (ys : List ℕ) → AreChained place up last (xs ++ y ∷ ys) None → after_in (place y) ≡ front ys None
chain-after place up last [] y ys c = ap after_in c.0
chain-after place up last (x ∷ xs) y ys c = chain-after place up (Some x) xs y ys c.1

-- the sibling after it
pub going-next : (old new : Kept) (first : Option ℕ) (levels : ℕ) (done : List Node) (y : Node) (ys : List Node) → AreBranches old first levels (done ++ y ∷ ys)
    → Released old new (all_ids (nodes_of done)) (text_sizes (all_without_ids (nodes_of done))) → after_in (place_at new.slots (id_of y)) ≡ front (ids_of (nodes_of ys)) None
going-next old new first levels done y ys b r =
    let d : AreDistinct (all_ids (nodes_of done) ++ (ids y ++ all_ids (nodes_of ys))) = subst AreDistinct (all_ids-append done (y ∷ ys)) b.distinct in
    let apart : IsAmong (id_of y) (all_ids (nodes_of done)) → ⊥ = λ c.
    distinct-apart (id_of y) (all_ids (nodes_of done)) (ids y ++ all_ids (nodes_of ys)) d c (among-left (id_of y) (ids y) (all_ids (nodes_of ys)) (among-top y)) in
    ap after_in (place-slot old.slots new.slots (id_of y) (r.others (id_of y) apart))
    ∙ chain-after (place_at old.slots) b.up b.last (ids_of (nodes_of done)) (id_of y) (ids_of (nodes_of ys))
    (subst (λ (zs : List ℕ). AreChained (place_at old.slots) b.up b.last zs None) (ids_of-append done (y ∷ ys)) b.chain)

pub released-then : (a b c : Kept) (xs ys : List ℕ) (m n : ℕ) → Released a b xs m → Released b c ys n → ((x : ℕ) → IsAmong x xs → IsAmong x ys → ⊥) → Released a c (xs ++ ys) (m + n)
released-then a b c xs ys m n r s apart = record {
  store = s.store;
  gone = λ x h l. elim (among-split x xs ys h) [
    | inl k ↦ r.gone x k (live-slot-same c.slots b.slots x (sym (s.others x (λ j. apart x k j))) l)
    | inr k ↦ s.gone x k l
  ];
  others = λ x h. s.others x (λ k. h (among-right x xs ys k)) ∙ r.others x (λ k. h (among-left x xs ys k));
  given = s.given ∙ r.given;
  live = omega (arith, r.live, s.live, length-append xs ys);
  code_points = omega (arith, r.code_points, s.code_points);
}

pub going-more : (a b c : Kept) (first at : Option ℕ) (levels index x : ℕ) (ns : List Node) → AreBranches a first levels ns → Going a b at index ns → index < length ns → at ≡ Some x
    → ((n : Node) → IsBranch b x levels n → Released b c (ids n) (text_size (without_ids n))) → Going a c (after_in (place_at b.slots x)) (index + 1) ns
going-more a b c first at levels index x ns br g w is step = by-rest g.0 g.1.0 g.1.1 g.1.2 g.1.3 g.1.4
  where
    by-rest : (done rest : List Node) → ns ≡ done ++ rest → length done ≡ index → at ≡ front (ids_of (nodes_of rest)) None → Released a b (all_ids (nodes_of done)) (text_sizes (all_without_ids (nodes_of done)))
        → Going a c (after_in (place_at b.slots x)) (index + 1) ns
    by-rest done [] e n f r = absurd (none-some x (sym f ∙ is))
    by-rest done (y ∷ ys) e n f r =
        let br2 : AreBranches a first levels (done ++ y ∷ ys) = subst (AreBranches a first levels) e br in
        let branch : IsBranch b x levels y = going-branch a b first at levels x done y ys br2 r f is in
        let s : Released b c (ids y) (text_size (without_ids y)) = step y branch in
        let d : AreDistinct (all_ids (nodes_of done) ++ (ids y ++ all_ids (nodes_of ys))) = subst AreDistinct (all_ids-append done (y ∷ ys)) br2.distinct in
        let apart : (z : ℕ) → IsAmong z (all_ids (nodes_of done)) → IsAmong z (ids y) → ⊥ = λ z k j.
        distinct-apart z (all_ids (nodes_of done)) (ids y ++ all_ids (nodes_of ys)) d k (among-left z (ids y) (all_ids (nodes_of ys)) j) in
        let both = released-then a b c (all_ids (nodes_of done)) (ids y) (text_sizes (all_without_ids (nodes_of done))) (text_size (without_ids y)) r s apart in
        let more : all_ids (nodes_of (done ++ y ∷ [])) ≡ all_ids (nodes_of done) ++ ids y = all_ids-append done (y ∷ []) ∙ ap (λ zs. all_ids (nodes_of done) ++ zs) (append-nil (ids y)) in
        let points : text_sizes (all_without_ids (nodes_of (done ++ y ∷ []))) ≡ text_sizes (all_without_ids (nodes_of done)) + text_size (without_ids y) =
        let q = text_sizes-append done (y ∷ []) in omega (arith, q) in (
          done ++ y ∷ [],
          (
            ys,
            e ∙ sym (append_assoc done (y ∷ []) ys),
            omega (arith, n, length-append done (y ∷ [])),
            ap (λ z. after_in (place_at b.slots z)) (sym branch.at) ∙ going-next a b first levels done y ys br2 r,
            subst (λ (zs : List ℕ). Released a c zs (text_sizes (all_without_ids (nodes_of (done ++ y ∷ []))))) (sym more) (subst (λ (m : ℕ). Released a c (all_ids (nodes_of done) ++ ids y) m) (sym points) both),
          ),
        )

-- all siblings are released
pub going-all : (a b : Kept) (at : Option ℕ) (index : ℕ) (ns : List Node) → Going a b at index ns → length ns ≤ index → Released a b (all_ids (nodes_of ns)) (text_sizes (all_without_ids (nodes_of ns)))
going-all a b at index ns g w = by-rest g.0 g.1.0 g.1.1 g.1.2 g.1.4
  where
    by-rest : (done rest : List Node) → ns ≡ done ++ rest → length done ≡ index → Released a b (all_ids (nodes_of done)) (text_sizes (all_without_ids (nodes_of done))) → Released a b (all_ids (nodes_of ns)) (text_sizes (all_without_ids (nodes_of ns)))
    by-rest done [] e n r = subst (λ (ms : List Node). Released a b (all_ids (nodes_of ms)) (text_sizes (all_without_ids (nodes_of ms)))) (sym (e ∙ append-nil done)) r
    by-rest done (y ∷ ys) e n r = absurd (omega (arith, n, w, ap length e, length-append done (y ∷ ys)))

pub going-stops : (a b : Kept) (at : Option ℕ) (index : ℕ) (ns : List Node) → Going a b at index ns → at ≡ None → Released a b (all_ids (nodes_of ns)) (text_sizes (all_without_ids (nodes_of ns)))
going-stops a b at index ns g none = by-rest g.0 g.1.0 g.1.1 g.1.3 g.1.4
  where
    by-rest : (done rest : List Node) → ns ≡ done ++ rest → at ≡ front (ids_of (nodes_of rest)) None → Released a b (all_ids (nodes_of done)) (text_sizes (all_without_ids (nodes_of done))) → Released a b (all_ids (nodes_of ns)) (text_sizes (all_without_ids (nodes_of ns)))
    by-rest done [] e f r = subst (λ (ms : List Node). Released a b (all_ids (nodes_of ms)) (text_sizes (all_without_ids (nodes_of ms)))) (sym (e ∙ append-nil done)) r
    by-rest done (y ∷ ys) e f r = absurd (none-some (id_of y) (sym none ∙ f))

-- ---- a tree and its children

-- the children of a node as a list
abbrev pub list_of : Nodes → List Node
list_of no_nodes = []
list_of (node n ns) = n ∷ list_of ns

pub nodes-list : (ns : Nodes) → nodes_of (list_of ns) ≡ ns
nodes-list no_nodes = refl
nodes-list (node n ns) = ap (node n) (nodes-list ns)

pub length-list : (ns : Nodes) → length (list_of ns) ≡ length (ids_of ns)
length-list no_nodes = refl
length-list (node n ns) = ap suc (length-list ns)

all-linked : (c : Cells) (root : Node) (ns : Nodes) → AreDistinct (ids root) → AreFound root ns → AreLinked c root → AreAllLinked c (list_of ns)
all-linked c root no_nodes d f h = tt
all-linked c root (node n ns) d f h = (
  λ i m e. h i m (find-within (id_of n) i root n d f.0 (some-among i n m e) ∙ e),
  all-linked c root ns d f.1 h,
)

front-is-first : (xs : List ℕ) → first xs ≡ front xs None
front-is-first [] = refl
front-is-first (x ∷ xs) = refl

pub branch-children : (k : Kept) (x levels : ℕ) (begin : Option ℕ) (n : Node) → IsBranch k x (suc levels) n → begin ≡ first_in (body_at k.slots x) → AreBranches k begin levels (list_of (children_of n))
branch-children k x levels begin (element id name attributes children) b start =
    let n : Node = element id name attributes children in
    let linked : IsLinked (cells_of k.slots) n = b.linked id n (find-top n) in
    let found : AreFound n children = find-children id n n b.distinct (find-top n) in
    let body : body_at k.slots x ≡ Some (body_of n) = ap (body_at k.slots) (sym b.at) ∙ linked.0 in
    let back : nodes_of (list_of children) ≡ children = nodes-list children in
    record {
      store = b.store;
      linked = all-linked (cells_of k.slots) n children b.distinct found b.linked;
      up = id;
      last = None;
      chain = rw back linked.1;
      first = start ∙ (ap first_in body ∙ (front-is-first (ids_of children) ∙ ap (λ ns. front (ids_of ns) None) (sym back)));
      distinct = rw back b.distinct.1;
      low = rw back (omega (arith, b.low));
      live = rw back (omega (arith, b.live));
      code_points = rw back (omega (arith, b.code_points));
    }
branch-children k x levels begin (text id cs) b start =
    let n : Node = text id cs in
    let linked : IsLinked (cells_of k.slots) n = b.linked id n (find-top n) in
    let body : body_at k.slots x ≡ Some (body_of n) = ap (body_at k.slots) (sym b.at) ∙ linked.0 in
    record {
      store = b.store;
      linked = tt;
      up = id;
      last = None;
      chain = tt;
      first = start ∙ ap first_in body;
      distinct = tt;
      low = omega arith;
      live = omega arith;
      code_points = omega arith;
    }

pub branch-count : (k : Kept) (x levels : ℕ) (n : Node) → IsBranch k x levels n → length (list_of (children_of n)) ≡ count_in (body_at k.slots x)
branch-count k x levels n b =
    length-list (children_of n) ∙ sym (ap count_in (ap (body_at k.slots) (sym b.at) ∙ (b.linked (id_of n) n (find-top n)).0))

-- the node by itself goes after its children
size-slot : (x : ℕ) (o : Option Slot) (b : Body) → option_and_then (body_in x) o ≡ Some b → size_in o ≡ b.size
size-slot x None b e = absurd (none-some b e)
size-slot x (Some s) b e = by-own (own_in x s.content) e
  where
    by-own : (o : Option Node) → option_map (λ own. record { own = own; first = target s.first; last = target s.last; count = s.children; size = s.size }) o ≡ Some b → s.size ≡ b.size
    by-own None e = absurd (none-some b e)
    by-own (Some n) e = ap (λ (c : Body). c.size) (same_Some _ b e)

node-apart : (n : Node) → AreDistinct (ids n) → IsAmong (id_of n) (all_ids (children_of n)) → ⊥
node-apart (element id name attributes children) d a = d.0 a
node-apart (text id cs) d a = a

node-ids : (n : Node) (x : ℕ) → IsAmong x (ids n) → (x ≡ id_of n) ⊎ IsAmong x (all_ids (children_of n))
node-ids (element id name attributes children) x a = a
node-ids (text id cs) x a = a

ids-node : (n : Node) (x : ℕ) → (x ≡ id_of n) ⊎ IsAmong x (all_ids (children_of n)) → IsAmong x (ids n)
ids-node (element id name attributes children) x a = a
ids-node (text id cs) x a = a

pub node-length : (n : Node) → length (ids n) ≡ suc (length (all_ids (children_of n)))
node-length (element id name attributes children) = refl
node-length (text id cs) = refl

node-size : (n : Node) → text_size (without_ids n) ≡ own_text_size n + text_sizes (all_without_ids (children_of n))
node-size (element id name attributes children) = refl
node-size (text id cs) = omega arith

pub branch-released : (a b : Kept) (x levels : ℕ) (n : Node) → IsBranch a x levels n → Released a b (all_ids (nodes_of (list_of (children_of n)))) (text_sizes (all_without_ids (nodes_of (list_of (children_of n)))))
    → Released a (kept_without b x) (ids n) (text_size (without_ids n))
branch-released a b x levels n br r0 =
    let back : nodes_of (list_of (children_of n)) ≡ children_of n = nodes-list (children_of n) in
    let r : Released a b (all_ids (children_of n)) (text_sizes (all_without_ids (children_of n))) = subst (λ (ns : Nodes). Released a b (all_ids ns) (text_sizes (all_without_ids ns))) back r0 in
    let out : IsAmong x (all_ids (children_of n)) → ⊥ = λ h. node-apart n br.distinct (subst (λ (y : ℕ). IsAmong y (all_ids (children_of n))) (sym br.at) h) in
    let same : slice_get b.slots x ≡ slice_get a.slots x = r.others x out in
    let body : body_at a.slots x ≡ Some (body_of n) = ap (body_at a.slots) (sym br.at) ∙ (br.linked (id_of n) n (find-top n)).0 in
    let live : IsLive b.slots x = live-slot-same a.slots b.slots x same (ap is_some body) in
    let size : size_in (slice_get b.slots x) ≡ own_text_size n = ap size_in same ∙ size-slot x (slice_get a.slots x) (body_of n) body in
    let one : 1 ≤ b.live = omega (arith, r.live, br.live, node-length n) in
    let w : x < length b.slots = live-within b.slots x live in
    let is = get-some b.slots x w in
    let slots_are : slots_without b.slots x b.free (slice_get b.slots x) ≡ slice_set b.slots x (freed b.free is.0) = ap (slots_without b.slots x b.free) is.1 in
    let here : slice_get (slots_without b.slots x b.free (slice_get b.slots x)) x ≡ Some (freed b.free is.0) = ap (λ l. slice_get l x) slots_are ∙ get-set-same b.slots x (freed b.free is.0) w in
    let other : (y : ℕ) → (y ≡ x → ⊥) → slice_get (slots_without b.slots x b.free (slice_get b.slots x)) y ≡ slice_get b.slots y = λ y ne. ap (λ l. slice_get l y) slots_are ∙ get-set-other b.slots x y (freed b.free is.0) ne in
    record {
      store = store-without b x r.store live one;
      gone = λ y h l. elim (cases_Bool (y == x)) [
        | inl t ↦
            free-dead (slots_without b.slots x b.free (slice_get b.slots x)) x b.free (ap (option_map (λ (s : Slot). s.content)) here)
            (subst (IsLive (slots_without b.slots x b.free (slice_get b.slots x))) (eqb-true y x t) l)
        | inr o ↦ elim (node-ids n y h) [
          | inl e ↦ absurd (eqb-false y x o (e ∙ br.at))
          | inr k ↦ r.gone y k (live-slot-same (slots_without b.slots x b.free (slice_get b.slots x)) b.slots y (sym (other y (eqb-false y x o))) l)
        ]
      ];
      others = λ y h.
          let ne : y ≡ x → ⊥ = λ e. h (ids-node n y (inl (e ∙ sym br.at))) in
          other y ne ∙ r.others y (λ k. h (ids-node n y (inr k)));
      given = length-slice_set b.table (id_at b.slots x) no_link ∙ r.given;
      live = omega (arith, r.live, one, node-length n);
      code_points = omega (arith, r.code_points, br.code_points, size, node-size n);
    }

-- ---- what is read of a branch

pub branch-body : (k : Kept) (x levels : ℕ) (n : Node) → IsBranch k x levels n → body_at k.slots x ≡ Some (body_of n)
branch-body k x levels n b = ap (body_at k.slots) (sym b.at) ∙ (b.linked (id_of n) n (find-top n)).0

pub slot-of-body : (slots : List Slot) (x : ℕ) (b : Body) → body_at slots x ≡ Some b → (s : Slot) × (slice_get slots x ≡ Some s) × (body_in x s ≡ Some b)
slot-of-body slots x b e = elim (none-or-some (slice_get slots x)) [
  | inl none ↦ absurd (body-unread slots x b none e)
  | inr some ↦ (some.0, some.1, body-read slots x some.0 b some.1 e)
]

pub branch-first : (k : Kept) (x levels : ℕ) (n : Node) → IsBranch k x levels n → target (first_link (slice_get k.slots x)) ≡ first_in (body_at k.slots x)
branch-first k x levels n b =
    let body = branch-body k x levels n b in
    let s = slot-of-body k.slots x (body_of n) body in
    ap (λ o. target (first_link o)) s.1 ∙ ((body-parts x s.0 (body_of n) s.2).1 ∙ sym (ap first_in body))

pub branch-number : (k : Kept) (x levels : ℕ) (n : Node) → IsBranch k x levels n → length (list_of (children_of n)) ≡ child_number (slice_get k.slots x)
branch-number k x levels n b =
    let body = branch-body k x levels n b in
    let s = slot-of-body k.slots x (body_of n) body in
    branch-count k x levels n b ∙ (ap count_in body ∙ (sym (body-parts x s.0 (body_of n) s.2).3 ∙ sym (ap child_number s.1)))

-- a tree is released when its children and then its own slot are
pub tree-released : (a b : Kept) (x levels : ℕ) (first : Link) (count : ℕ) (n : Node) → IsBranch a x (suc levels) n → first ≡ first_link (slice_get a.slots x) → count ≡ child_number (slice_get a.slots x)
    → ((ns : List Node) → AreBranches a (target first) levels ns → length ns ≡ count → Released a b (all_ids (nodes_of ns)) (text_sizes (all_without_ids (nodes_of ns))))
    → (x < length b.slots) × Released a (kept_without b x) (ids n) (text_size (without_ids n))
tree-released a b x levels first count n br e c step =
    let r = step (list_of (children_of n)) (branch-children a x levels (target first) n br (ap target e ∙ branch-first a x (suc levels) n br)) (branch-number a x (suc levels) n br ∙ sym c) in
    let back : nodes_of (list_of (children_of n)) ≡ children_of n = nodes-list (children_of n) in
    let out : IsAmong x (all_ids (nodes_of (list_of (children_of n)))) → ⊥ = λ h.
    node-apart n br.distinct (subst (λ (y : ℕ). IsAmong y (all_ids (children_of n))) (sym br.at) (subst (λ (ns : Nodes). IsAmong x (all_ids ns)) back h)) in
    let live : IsLive b.slots x = live-slot-same a.slots b.slots x (r.others x out) (ap is_some (branch-body a x (suc levels) n br)) in
    (live-within b.slots x live, branch-released a b x (suc levels) n br r)

-- a tree is not so low
pub no-branch : (k : Kept) (x : ℕ) (n : Node) → IsBranch k x 0 n → ⊥
no-branch k x (element id name attributes children) b = omega (arith, b.low)
no-branch k x (text id cs) b = omega (arith, b.low)
