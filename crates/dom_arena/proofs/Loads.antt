-- Slots that hold a tree are a document; so are those in which a tree was built beside nothing.
use Rattle.std.proofs.Common.{List, None, Some, [], ap, arith, inl, inr, is_some, length, length-append, subst, sym, true, ℕ, ◌==◌, ◌∙◌, ◌≡◌, ◌≤◌}
use Rattle.std.proofs.lemmas.Bool.{false≢true}
use Rattle.std.proofs.lemmas.Option.{none-some, same_Some}
use Rattle.dom_arena.proofs.Builds.{built-distinct, children-count, map-length}
use Rattle.dom_arena.proofs.Readings.{AreFew, below-linked}
use Rattle.dom_arena.proofs.Renamed.{height-renamed, ids-renamed, name_of-renamed, without-renamed}
use Rattle.dom_arena.specs.Built.{Built}
use Rattle.dom_arena.specs.Docs.{HoldsTree, IsDoc, document_in}
use Rattle.dom_arena.specs.Reading.{below, tree_in}
use Rattle.dom_arena.specs.Rename.{rename}
use Rattle.dom_arena.specs.Slots.{IsLive, cells_of, id_at}
use Rattle.dom_arena.specs.Stores.{Kept, empty_kept}
use Rattle.dom_arena.specs.declared.slot.Slot.{Slot}
use Rattle.page_laws.proofs.Find.{find-top}
use Rattle.page_laws.proofs.Options.{if-found, or-found}
use Rattle.page_laws.proofs.WithIds.{element-with_ids, node_count-with_ids, without-with_ids}
use Rattle.page_laws.specs.Limits.{KeepsLimits}
use Rattle.page_model.specs.Document.{Document, Node, Nodes, all_ids, document, element, find, find_in, height, ids, name_of, no_nodes, node, node_count, text, with_ids, without_ids}
use Rattle.page_model.specs.Trees.{Tree, is_elem, size, text_size}
use Rattle.page_model.specs.declared.limits.TheConstants.{MAX_DEPTH, MAX_NODES}

-- ---- no list of children is longer than the tree

mutual
  pub part-length : (i : ℕ) (root n : Node) → find i root ≡ Some n → length (ids n) ≤ length (ids root)
  part-length i (element id name attributes children) n e = elim (if-found (i == id) (element id name attributes children) n (find_in i children) e) [
    | inl k ↦
        let same : element id name attributes children ≡ n = same_Some (element id name attributes children) n k.1 in
        let long : length (ids (element id name attributes children)) ≡ length (ids n) = ap (λ (m : Node). length (ids m)) same in
        omega (arith, long)
    | inr k ↦ let rest = all_part-length i children n k.1 in omega (arith, rest)
  ]
  part-length i (text id cs) n e = elim (if-found (i == id) (text id cs) n None e) [
    | inl k ↦
        let same : text id cs ≡ n = same_Some (text id cs) n k.1 in
        let long : length (ids (text id cs)) ≡ length (ids n) = ap (λ (m : Node). length (ids m)) same in
        omega (arith, long)
    | inr k ↦ absurd (none-some n k.1)
  ]

  all_part-length : (i : ℕ) (ns : Nodes) (n : Node) → find_in i ns ≡ Some n → length (ids n) ≤ length (all_ids ns)
  all_part-length i no_nodes n e = absurd (none-some n e)
  all_part-length i (node m ms) n e = elim (or-found (find i m) (find_in i ms) n e) [
    | inl k ↦ let one = part-length i m n k in omega (arith, one, length-append (ids m) (all_ids ms))
    | inr k ↦ let rest = all_part-length i ms n k.1 in omega (arith, rest, length-append (ids m) (all_ids ms))
  ]

pub few-children : (root : Node) (many : ℕ) → node_count root ≤ many → AreFew many root
few-children root many few i n e =
    let part = part-length i root n e in
    omega (arith, few, part, children-count n)

-- ---- the tree that is read of the slots is the tree that they hold

pub tree-read : (k : Kept) (x : ℕ) (n : Node) → HoldsTree k x n → node_count n ≤ MAX_NODES → height n ≤ MAX_DEPTH → tree_in k.slots x ≡ n
tree-read k x n h few low =
    ap (below (cells_of k.slots) MAX_NODES MAX_DEPTH) (sym h.at)
    ∙ below-linked (cells_of k.slots) n MAX_NODES MAX_DEPTH n h.distinct h.linked (few-children n MAX_NODES few) (find-top n) low

-- what is seen where the slots hold this tree
abbrev pub document_of : Kept → Node → Document
document_of k n = record { root = rename (id_at k.slots) n; next_id = length k.table }

pub tree-doc : (k : Kept) (x : ℕ) (n : Node) → HoldsTree k x n → KeepsLimits (document_of k n) → (document_in k x ≡ document_of k n) × IsDoc k x
tree-doc k x n h limits =
    let f : ℕ → ℕ = id_at k.slots in
    let long : length (ids (rename f n)) ≡ length (ids n) = ap length (ids-renamed f n) ∙ map-length f (ids n) in
    let same : tree_in k.slots x ≡ n = tree-read k x n h (omega (arith, long, limits.few)) (omega (arith, height-renamed f n, limits.low)) in (
      ap (document_of k) same,
      record {
        tree = subst (HoldsTree k x) (sym same) h;
        limits = subst (λ (m : Node). KeepsLimits (document_of k m)) (sym same) limits;
      },
    )

-- ---- a tree that was built beside nothing

built-holds : (a k : Kept) (t : Tree) (s : ℕ) (r : Built a k t s) → ((y : ℕ) → IsLive a.slots y → ⊥) → length a.table ≡ 0 → a.live ≡ 0 → a.code_points ≡ 0 → is_elem t ≡ true → HoldsTree k s r.built
built-holds a k t s r empty given live points e =
    let f : ℕ → ℕ = id_at k.slots in
    let number : length (ids r.built) ≡ size t = sym (map-length f (ids r.built)) ∙ (ap length (sym (ids-renamed f r.built) ∙ ap ids r.tree) ∙ node_count-with_ids (length a.table) t) in
    let plain : without_ids r.built ≡ t = sym (without-renamed f r.built) ∙ (ap without_ids r.tree ∙ without-with_ids (length a.table) t) in
    let all : text_size (without_ids r.built) ≡ text_size t = ap text_size plain in
    record {
      store = r.store;
      linked = r.linked;
      distinct = built-distinct a k t s r;
      at = r.at;
      top = r.top;
      element = ap is_some (sym (name_of-renamed f r.built)) ∙ (ap (λ (n : Node). is_some (name_of n)) r.tree ∙ element-with_ids (length a.table) t e);
      only = λ y h. elim (r.only y h) [
        | inl q ↦ absurd (empty y q)
        | inr q ↦ q
      ];
      live = omega (arith, r.live, live, number);
      code_points = omega (arith, r.code_points, points, all);
    }

none-live : (y : ℕ) → IsLive [] y → ⊥
none-live y h = false≢true h

-- the document of a tree that was loaded
pub loaded : (a k : Kept) (t : Tree) (s : ℕ) → a ≡ empty_kept → Built a k t s → is_elem t ≡ true → KeepsLimits (document t) → (document_in k s ≡ document t) × IsDoc k s
loaded a k t s e r named limits =
    let slots : a.slots ≡ [] = ap (λ (q : Kept). q.slots) e in
    let given : length a.table ≡ 0 = ap (λ (q : Kept). length q.table) e in
    let holds : HoldsTree k s r.built = built-holds a k t s r (λ y h. none-live y (subst (λ (xs : List Slot). IsLive xs y) slots h)) given (ap (λ (q : Kept). q.live) e) (ap (λ (q : Kept). q.code_points) e) named in
    let root : rename (id_at k.slots) r.built ≡ with_ids 0 t = r.tree ∙ ap (λ n. with_ids n t) given in
    let next : length k.table ≡ size t = omega (arith, r.given, given) in
    let same : document_of k r.built ≡ document t = λ j. record { root = root j; next_id = next j } in
    let is = tree-doc k s r.built holds (subst KeepsLimits (sym same) limits) in
    (is.0 ∙ same, is.1)
