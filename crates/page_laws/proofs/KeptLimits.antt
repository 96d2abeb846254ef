-- A document that an edit leaves breaks no limit.
use Rattle.std.proofs.Common.{IsSome, None, Option, Some, [], arith, false, inl, inr, is_none, length, length-append, ltb-false, nat_lt, refl, sym, ℕ, ◌==◌, ◌||◌, ◌∙◌, ◌∷◌, ◌≡◌, ◌≤◌}
use Rattle.std.proofs.lemmas.Bool.{cases_Bool}
use Rattle.page_laws.proofs.BrokenLimits.{insert-refused, load-refused}
use Rattle.page_laws.proofs.Options.{or-false}
use Rattle.page_laws.specs.ChildLists.{IsPlace}
use Rattle.page_laws.specs.Ids.{HasGivenIds}
use Rattle.page_laws.specs.Limits.{KeepsLimits, broken_grammar, broken_limits, broken_sizes}
use Rattle.page_model.specs.Document.{Document, Node, Nodes, all_ids, all_without_ids, document, element, find, height, heights, id_of, ids, name_at, no_nodes, node, node_count, text, without_ids}
use Rattle.page_model.specs.Edits.{child_count, document_after_insert, document_after_remove, insert_causes, load_causes, nodes_after_remove, taken_below, tree_after_remove, tree_causes}
use Rattle.page_model.specs.Refusals.{Causes, first_of}
use Rattle.page_model.specs.Trees.{Attribute, Text, Tree, has_bad_name, has_long_text, has_many_attributes, is_badly_named, is_long, text_size, text_sizes}
use Rattle.page_model.specs.declared.limits.TheConstants.{MAX_ATTRIBUTES, MAX_DEPTH, MAX_IDS, MAX_NODES, MAX_TEXTS}
use Rattle.page_model.specs.declared.cause.Cause.TheVariants.{AttrLimit, BadIndex, BadName, DepthLimit, IdLimit, NoNode, NodeLimit, NotElement, TextLimit}
use Rattle.page_laws.proofs.TreeAfterRemove.{has_node-removed}
use Rattle.page_laws.proofs.FirstOf.{append-none, first-false}
use Rattle.std.specs.List.{list_any}

-- ---- where no limit is broken

pub kept-limits : (d : Document) → first_of (broken_limits d) ≡ None → KeepsLimits d
kept-limits d none =
    let parts = append-none (broken_grammar d) (broken_sizes d) none in
    let texts : Causes = (has_long_text (without_ids d.root) || nat_lt MAX_TEXTS (text_size (without_ids d.root)), TextLimit) ∷ [] in
    let attributes : Causes = (has_many_attributes (without_ids d.root), AttrLimit) ∷ texts in
    let a = first-false (has_bad_name (without_ids d.root)) BadName attributes parts.0 in
    let b = first-false (has_many_attributes (without_ids d.root)) AttrLimit texts a.1 in
    let c = first-false (has_long_text (without_ids d.root) || nat_lt MAX_TEXTS (text_size (without_ids d.root))) TextLimit [] b.1 in
    let long = or-false (has_long_text (without_ids d.root)) (nat_lt MAX_TEXTS (text_size (without_ids d.root))) c.0 in
    let ids : Causes = (nat_lt MAX_IDS d.next_id, IdLimit) ∷ [] in
    let nodes : Causes = (nat_lt MAX_NODES (node_count d.root), NodeLimit) ∷ ids in
    let deep = first-false (nat_lt MAX_DEPTH (height d.root)) DepthLimit nodes parts.1 in
    let many = first-false (nat_lt MAX_NODES (node_count d.root)) NodeLimit ids deep.1 in
    let high = first-false (nat_lt MAX_IDS d.next_id) IdLimit [] many.1 in
    record {
      grammar = record { names = a.0; attributes = b.0; texts = long.0 };
      code_points = ltb-false MAX_TEXTS (text_size (without_ids d.root)) long.1;
      low = ltb-false MAX_DEPTH (height d.root) deep.0;
      few = ltb-false MAX_NODES (node_count d.root) many.0;
      given = ltb-false MAX_IDS d.next_id high.0;
    }

-- ---- after an edit that no cause refuses

pub kept-loaded : (t : Tree) → first_of (load_causes t) ≡ None → KeepsLimits (document t)
kept-loaded t h = kept-limits (document t) (sym (load-refused t) ∙ h)

pub some-there : (o : Option Text) → is_none o ≡ false → IsSome o
some-there (Some x) h = refl
some-there None h = absurd (cc)

-- an insert that no cause refuses has a place
pub place-of_insert : (parent index : ℕ) (t : Tree) (d : Document) → HasGivenIds d → first_of (insert_causes parent index t d) ≡ None → IsPlace parent index d
place-of_insert parent index t d given h =
    let limits : Causes = tree_causes (taken_below parent d) t in
    let places : Causes = (nat_lt (child_count parent d.root) index, BadIndex) ∷ limits in
    let a = first-false (is_none (find parent d.root)) NoNode ((is_none (name_at parent d.root), NotElement) ∷ places) h in
    let b = first-false (is_none (name_at parent d.root)) NotElement places a.1 in
    let c = first-false (nat_lt (child_count parent d.root) index) BadIndex limits b.1 in
    ((given, some-there (name_at parent d.root) b.0), ltb-false (child_count parent d.root) index c.0)

pub kept-inserted : (parent index : ℕ) (t : Tree) (d : Document) → HasGivenIds d → KeepsLimits d → first_of (insert_causes parent index t d) ≡ None
    → KeepsLimits (document_after_insert parent index t d)
kept-inserted parent index t d given keeps h =
    kept-limits (document_after_insert parent index t d)
    (sym (insert-refused parent index t d (place-of_insert parent index t d given h) keeps) ∙ h)

-- ---- less is left after a remove

-- fewer code points, levels and nodes
mutual
  less-removed : (i : ℕ) (n : Node)
      → (text_size (without_ids (tree_after_remove i n)) ≤ text_size (without_ids n)) × (height (tree_after_remove i n) ≤ height n)
      × (length (ids (tree_after_remove i n)) ≤ length (ids n))
  less-removed i (element id name attributes children) =
      let less = all-less-removed i children in
      (omega (arith, less.0), omega (arith, less.1), omega (arith, less.2))
  less-removed i (text id cs) = (omega arith, omega arith, omega arith)

  all-less-removed : (i : ℕ) (ns : Nodes)
      → (text_sizes (all_without_ids (nodes_after_remove i ns)) ≤ text_sizes (all_without_ids ns)) × (heights (nodes_after_remove i ns) ≤ heights ns)
      × (length (all_ids (nodes_after_remove i ns)) ≤ length (all_ids ns))
  all-less-removed i no_nodes = (omega arith, omega arith, omega arith)
  all-less-removed i (node n ns) =
      let head = less-removed i n in
      let less = all-less-removed i ns in
      elim (cases_Bool (i == id_of n)) [
        | inl t ↦ rw t (omega (arith, less.0), omega (arith, less.1), omega (arith, less.2, length-append (ids n) (all_ids ns)))
        | inr f ↦ rw f (
          omega (arith, head.0, less.0),
          omega (arith, head.1, less.1),
          omega (arith, head.2, less.2, length-append (ids n) (all_ids ns), length-append (ids (tree_after_remove i n)) (all_ids (nodes_after_remove i ns))),
        )
      ]

pub kept-removed : (i : ℕ) (d : Document) → KeepsLimits d → KeepsLimits (document_after_remove i d)
kept-removed i d keeps =
    let less = less-removed i d.root in
    record {
      grammar = record {
        names = has_node-removed is_badly_named (λ _. false) i d.root keeps.grammar.names;
        attributes = has_node-removed (λ _ attributes. nat_lt MAX_ATTRIBUTES (length attributes)) (λ _. false) i d.root keeps.grammar.attributes;
        texts = has_node-removed (λ _ attributes. list_any (λ (a : Attribute). is_long a.1) attributes) is_long i d.root keeps.grammar.texts;
      };
      code_points = omega (arith, less.0, keeps.code_points);
      low = omega (arith, less.1, keeps.low);
      few = omega (arith, less.2, keeps.few);
      given = keeps.given;
    }
