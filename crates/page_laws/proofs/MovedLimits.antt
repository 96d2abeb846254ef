-- A document in which a node was moved breaks no limit.
use Rattle.page_model.specs.declared.cause.Cause.TheVariants.{BadIndex, Cycle, DepthLimit, IsRoot, NoNode, NotElement}
use Rattle.page_model.specs.Refusals.{Causes, first_of}
use Rattle.page_laws.proofs.KeptLimits.{some-there}
use Rattle.page_laws.proofs.FirstOf.{first-false}
use Rattle.std.proofs.Common.{Bool, List, None, Option, Some, [], ap, arith, cond, false, inl, inr, is_none, is_some, length, ltb-false, max, nat_lt, option_map, refl, subst, suc, sym, unwrap_or, ℕ, ◌+◌, ◌==◌, ◌||◌, ◌∙◌, ◌∷◌, ◌≡◌, ◌≤◌}
use Rattle.std.proofs.lemmas.Bool.{cases_Bool, eqb-false, false≢true}
use Rattle.std.proofs.lemmas.Option.{none-some, same_Some}
use Rattle.std.specs.List.{list_any}
use Rattle.page_laws.proofs.Find.{find-among}
use Rattle.page_laws.proofs.IsAmong.{among-is_among, among-rest, among-split, distinct-apart, distinct-left, distinct-right}
use Rattle.page_laws.proofs.Levels.{level-absent, level-found, unlevelled-absent}
use Rattle.page_laws.proofs.Options.{if-found, none-or-some, not-none, or-false, or-found, some-is}
use Rattle.page_laws.proofs.TreeAfterInsert.{has_node-inserted, height-grown}
use Rattle.page_laws.proofs.TreeAfterMove.{fits-left, move-is, node_count-moved, parent-stays, text_size-moved}
use Rattle.page_laws.proofs.TreeAfterRemove.{all_among-kept, among-kept, has_node-removed, height-removed}
use Rattle.page_laws.specs.Ids.{CanMove, HasGivenIds}
use Rattle.page_laws.specs.Limits.{KeepsLimits}
use Rattle.page_model.specs.Document.{AreDistinct, Document, IsAmong, Node, Nodes, all_ids, all_without_ids, element, find, find_in, height, id_of, ids, is_among, name_at, no_nodes, node, text, without_ids}
use Rattle.page_model.specs.Edits.{child_count, document_after_move, height_at, is_within, level, level_in, move_causes, nodes_after_remove, tree_after_insert, tree_after_move, tree_after_remove}
use Rattle.page_model.specs.Trees.{Attribute, Text, has_node, have_node, is_badly_named, is_long}
use Rattle.page_model.specs.declared.limits.TheConstants.{MAX_ATTRIBUTES, MAX_DEPTH}

-- ---- the level of a node that is left after a remove

if-same : (b : Bool) (o p : Option ℕ) → o ≡ p → cond b (Some 1) (option_map (λ l. suc l) o) ≡ cond b (Some 1) (option_map (λ l. suc l) p)
if-same b o p e = ap (λ q. cond b (Some 1) (option_map (λ l. suc l) q)) e

mutual
  pub level-left : (i j : ℕ) (n : Node) → AreDistinct (ids n) → IsAmong j (ids (tree_after_remove i n)) → level j (tree_after_remove i n) ≡ level j n
  level-left i j (element id name attributes children) d h = elim (cases_Bool (j == id)) [
    | inl t ↦ rw t refl
    | inr f ↦ if-same (j == id) (level_in j (nodes_after_remove i children)) (level_in j children) (level_in-left i j children d.1 (among-rest j id (all_ids (nodes_after_remove i children)) f h))
  ]
  level-left i j (text id cs) d h = refl

  level_in-left : (i j : ℕ) (ns : Nodes) → AreDistinct (all_ids ns) → IsAmong j (all_ids (nodes_after_remove i ns)) → level_in j (nodes_after_remove i ns) ≡ level_in j ns
  level_in-left i j no_nodes d h = absurd h
  level_in-left i j (node n ns) d h = elim (cases_Bool (i == id_of n)) [
    | inl t ↦
        let k : IsAmong j (all_ids (nodes_after_remove i ns)) = rw t at h in
        let none : level j n ≡ None = level-absent j n (λ a. distinct-apart j (ids n) (all_ids ns) d a (all_among-kept i j ns k)) in
        rw (t, none) (level_in-left i j ns (distinct-right (ids n) (all_ids ns) d) k)
    | inr f ↦ elim (among-split j (ids (tree_after_remove i n)) (all_ids (nodes_after_remove i ns)) (rw f at h)) [
      | inl k ↦
          let step : level j (tree_after_remove i n) ≡ level j n = level-left i j n (distinct-left (ids n) (all_ids ns) d) k in
          elim (none-or-some (level j n)) [
            | inl none ↦ absurd (unlevelled-absent j n none (among-kept i j n k))
            | inr some ↦ rw (f, step, some.1) refl
          ]
      | inr k ↦
          let out : IsAmong j (ids n) → ⊥ = λ a. distinct-apart j (ids n) (all_ids ns) d a (all_among-kept i j ns k) in
          let none : level j n ≡ None = level-absent j n out in
          let none_left : level j (tree_after_remove i n) ≡ None = level-absent j (tree_after_remove i n) (λ a. out (among-kept i j n a)) in
          rw (f, none_left, none) (level_in-left i j ns (distinct-right (ids n) (all_ids ns) d) k)
    ]
  ]

-- ---- what no node of a tree is, none of a part of it is

mutual
  has_node-part : (e : Text → List Attribute → Bool) (c : Text → Bool) (i : ℕ) (n m : Node) → find i n ≡ Some m → has_node e c (without_ids n) ≡ false → has_node e c (without_ids m) ≡ false
  has_node-part e c i (element id name attributes children) m f h = elim (if-found (i == id) (element id name attributes children) m (find_in i children) f) [
    | inl k ↦ subst (λ (x : Node). has_node e c (without_ids x) ≡ false) (same_Some (element id name attributes children) m k.1) h
    | inr k ↦ have_node-part e c i children m k.1 (or-false (e name attributes) (have_node e c (all_without_ids children)) h).1
  ]
  has_node-part e c i (text id cs) m f h = elim (if-found (i == id) (text id cs) m None f) [
    | inl k ↦ subst (λ (x : Node). has_node e c (without_ids x) ≡ false) (same_Some (text id cs) m k.1) h
    | inr k ↦ absurd (none-some m k.1)
  ]

  have_node-part : (e : Text → List Attribute → Bool) (c : Text → Bool) (i : ℕ) (ns : Nodes) (m : Node) → find_in i ns ≡ Some m → have_node e c (all_without_ids ns) ≡ false → has_node e c (without_ids m) ≡ false
  have_node-part e c i no_nodes m f h = absurd (none-some m f)
  have_node-part e c i (node n ns) m f h =
      let parts = or-false (has_node e c (without_ids n)) (have_node e c (all_without_ids ns)) h in
      elim (or-found (find i n) (find_in i ns) m f) [
        | inl k ↦ has_node-part e c i n m k parts.0
        | inr k ↦ have_node-part e c i ns m k.1 parts.1
      ]

-- none of the tree after a move
has_node-moved : (e : Text → List Attribute → Bool) (c : Text → Bool) (i parent index : ℕ) (n root : Node) → CanMove i parent n root → has_node e c (without_ids root) ≡ false
    → has_node e c (without_ids (tree_after_move i parent index root)) ≡ false
has_node-moved e c i parent index n root m h =
    rw (move-is i parent index n root m.found)
    (has_node-inserted e c parent index n (tree_after_remove i root) (fits-left i parent n root m) (has_node-removed e c i root h) ∙ has_node-part e c i root n m.found h)

-- ---- the limits

pub kept-moved : (i parent index l : ℕ) (n : Node) (d : Document) → CanMove i parent n d.root → level parent d.root ≡ Some l → l + height n ≤ MAX_DEPTH → KeepsLimits d
    → KeepsLimits (document_after_move i parent index d)
kept-moved i parent index l n d m at deep keeps =
    let rest : Node = tree_after_remove i d.root in
    let fits = fits-left i parent n d.root m in
    let stays : IsAmong parent (ids rest) = find-among parent rest (parent-stays i parent n d.root m) in
    let high : height (tree_after_insert parent index n rest) ≡ max (height rest) (l + height n) =
    height-grown parent index n rest l fits.distinct (level-left i parent d.root m.distinct stays ∙ at) fits.element in
    let same : height (tree_after_move i parent index d.root) ≡ height (tree_after_insert parent index n rest) = ap height (move-is i parent index n d.root m.found) in
    let points = text_size-moved i parent index n d.root m in
    let count = node_count-moved i parent index n d.root m in
    record {
      grammar = record {
        names = has_node-moved is_badly_named (λ _. false) i parent index n d.root m keeps.grammar.names;
        attributes = has_node-moved (λ _ attributes. nat_lt MAX_ATTRIBUTES (length attributes)) (λ _. false) i parent index n d.root m keeps.grammar.attributes;
        texts = has_node-moved (λ _ attributes. list_any (λ (a : Attribute). is_long a.1) attributes) is_long i parent index n d.root m keeps.grammar.texts;
      };
      code_points = omega (arith, points, keeps.code_points);
      low = omega (arith, same, high, height-removed i d.root, deep, keeps.low);
      few = omega (arith, count, keeps.few);
      given = keeps.given;
    }

-- the limits after a move that no cause refuses
pub kept-move : (i parent index : ℕ) (d : Document) → HasGivenIds d → KeepsLimits d → first_of (move_causes i parent index d) ≡ None → KeepsLimits (document_after_move i parent index d)
kept-move i parent index d given keeps h =
    let root : Node = d.root in
    let depth : ℕ = unwrap_or (level parent root) 0 + height_at i root in
    let low : Causes = (nat_lt MAX_DEPTH depth, DepthLimit) ∷ [] in
    let places : Causes = (nat_lt (child_count parent (tree_after_remove i root)) index, BadIndex) ∷ low in
    let outside : Causes = (is_within i parent root, Cycle) ∷ places in
    let elements : Causes = (is_none (name_at parent root), NotElement) ∷ outside in
    let inner : Causes = (i == id_of root, IsRoot) ∷ elements in
    let a = first-false (is_none (find i root) || is_none (find parent root)) NoNode inner h in
    let b = first-false (i == id_of root) IsRoot elements a.1 in
    let c = first-false (is_none (name_at parent root)) NotElement outside b.1 in
    let e = first-false (is_within i parent root) Cycle places c.1 in
    let f = first-false (nat_lt (child_count parent (tree_after_remove i root)) index) BadIndex low e.1 in
    let g = first-false (nat_lt MAX_DEPTH depth) DepthLimit [] f.1 in
    let there = or-false (is_none (find i root)) (is_none (find parent root)) a.0 in
    let n = not-none (find i root) there.0 in
    let p = not-none (find parent root) there.1 in
    let l = some-is (level parent root) (level-found parent root ∙ ap is_some p.1) in
    let at : unwrap_or (level parent root) 0 ≡ l.0 = ap (λ o. unwrap_or o 0) l.1 in
    let high : height_at i root ≡ height n.0 = ap (λ o. unwrap_or (option_map height o) 0) n.1 in
    let deep : depth ≤ MAX_DEPTH = ltb-false MAX_DEPTH depth g.0 in
    let within : is_within i parent root ≡ is_among parent (ids n.0) = ap (λ o. unwrap_or (option_map (λ (x : Node). is_among parent (ids x)) o) false) n.1 in
    let can : CanMove i parent n.0 root = record {
      distinct = given.0;
      found = n.1;
      not_root = eqb-false i (id_of root) b.0;
      element = some-there (name_at parent root) c.0;
      outside = λ x. false≢true (sym e.0 ∙ (within ∙ among-is_among parent (ids n.0) x));
    } in
    kept-moved i parent index l.0 n.0 d can l.1 (omega (arith, at, high, deep)) keeps
