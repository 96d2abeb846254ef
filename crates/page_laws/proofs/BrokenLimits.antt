-- The limits that a document breaks after a load or an insert.
use Rattle.std.proofs.Common.{Bool, List, Option, Some, [], ap, arith, cond, false, inl, inr, is_none, is_some, le-ltb, length, lt-ltb, ltb-false, ltb-true, max, nat_lt, sym, unwrap_or, ℕ, ◌+◌, ◌++◌, ◌<◌, ◌||◌, ◌∙◌, ◌∷◌, ◌≡◌, ◌≤◌}
use Rattle.std.proofs.lemmas.Bool.{cases_Bool, false≢true}
use Rattle.std.specs.List.{list_any}
use Rattle.page_laws.proofs.DocumentAfterInsert.{fits-document}
use Rattle.page_laws.proofs.Find.{named-some}
use Rattle.page_laws.proofs.Levels.{level-found}
use Rattle.page_laws.proofs.Options.{none-or-some, some-not-none}
use Rattle.page_laws.proofs.TreeAfterInsert.{has_node-inserted, height-grown, node_count-inserted, text_size-inserted}
use Rattle.page_laws.proofs.WithIds.{height-with_ids, node_count-with_ids, without-with_ids}
use Rattle.page_laws.specs.ChildLists.{IsPlace, TakesChildren}
use Rattle.page_laws.specs.Limits.{KeepsGrammar, KeepsLimits, broken_grammar, broken_limits, broken_sizes}
use Rattle.page_model.specs.Document.{Document, document, find, height, name_at, node_count, with_ids, without_ids}
use Rattle.page_model.specs.Edits.{child_count, document_after_insert, grammar_causes, insert_causes, level, load_causes, nothing_taken, size_causes, taken_below, tree_causes}
use Rattle.page_model.specs.Refusals.{Causes, first_of}
use Rattle.page_model.specs.Trees.{Attribute, Text, Tree, depth, has_bad_name, has_long_text, has_many_attributes, has_node, is_badly_named, is_long, size, text_size}
use Rattle.page_model.specs.declared.limits.TheConstants.{MAX_ATTRIBUTES, MAX_DEPTH, MAX_IDS, MAX_NODES, MAX_TEXTS}
use Rattle.page_model.specs.declared.cause.Cause.{Cause}
use Rattle.page_model.specs.declared.cause.Cause.TheVariants.{NoNode, NotElement, BadIndex, BadName, AttrLimit, TextLimit, DepthLimit, NodeLimit, IdLimit}

pub height-after : (parent index : ℕ) (t : Tree) (d : Document) (l : ℕ) → TakesChildren parent d → level parent d.root ≡ Some l
    → height (document_after_insert parent index t d).root ≡ max (height d.root) (l + depth t)
height-after parent index t d l k e =
    height-grown parent index (with_ids d.next_id t) d.root l k.0.0 e k.1 ∙ ap (λ (h : ℕ). max (height d.root) (l + h)) (height-with_ids d.next_id t)

pub count-after : (parent index : ℕ) (t : Tree) (d : Document) → TakesChildren parent d → node_count (document_after_insert parent index t d).root ≡ node_count d.root + size t
count-after parent index t d k =
    node_count-inserted parent index (with_ids d.next_id t) d.root (fits-document parent t d k) ∙ ap (λ (n : ℕ). node_count d.root + n) (node_count-with_ids d.next_id t)

pub text_size-after : (parent index : ℕ) (t : Tree) (d : Document) → TakesChildren parent d
    → text_size (without_ids (document_after_insert parent index t d).root) ≡ text_size (without_ids d.root) + text_size t
text_size-after parent index t d k =
    text_size-inserted parent index (with_ids d.next_id t) d.root (fits-document parent t d k)
    ∙ ap (λ (u : Tree). text_size (without_ids d.root) + text_size u) (without-with_ids d.next_id t)

lt-max : (m a b : ℕ) → a ≤ m → nat_lt m b ≡ nat_lt m (max a b)
lt-max m a b h = elim (cases_Bool (nat_lt m b)) [
  | inl t ↦ let over : m < b = ltb-true m b t in t ∙ sym (lt-ltb m (max a b) (omega (arith, over)))
  | inr f ↦ let under : b ≤ m = ltb-false m b f in f ∙ sym (le-ltb m (max a b) (omega (arith, under, h)))
]

pub depth-limit : (parent index : ℕ) (t : Tree) (d : Document) (l : ℕ) → TakesChildren parent d → level parent d.root ≡ Some l → height d.root ≤ MAX_DEPTH
    → nat_lt MAX_DEPTH (l + depth t) ≡ nat_lt MAX_DEPTH (height (document_after_insert parent index t d).root)
depth-limit parent index t d l k e low =
    lt-max MAX_DEPTH (height d.root) (l + depth t) low ∙ sym (ap (nat_lt MAX_DEPTH) (height-after parent index t d l k e))

-- the causes of these sizes
abbrev grammar : Bool → Bool → Bool → ℕ → Causes
grammar names attributes texts code_points = (names, BadName) ∷ (attributes, AttrLimit) ∷ (texts || nat_lt MAX_TEXTS code_points, TextLimit) ∷ []

abbrev causes : Bool → ℕ → ℕ → Causes
causes deep nodes given = (deep, DepthLimit) ∷ (nat_lt MAX_NODES nodes, NodeLimit) ∷ (nat_lt MAX_IDS given, IdLimit) ∷ []

-- where no node of the document passes, one of the document after passes exactly where one of the new tree does
node-after : (e : Text → List Attribute → Bool) (c : Text → Bool) (parent index : ℕ) (t : Tree) (d : Document) → TakesChildren parent d → has_node e c (without_ids d.root) ≡ false
    → has_node e c t ≡ has_node e c (without_ids (document_after_insert parent index t d).root)
node-after e c parent index t d k h =
    sym (has_node-inserted e c parent index (with_ids d.next_id t) d.root (fits-document parent t d k) h ∙ ap (has_node e c) (without-with_ids d.next_id t))

pub grammar-limits : (parent index : ℕ) (t : Tree) (d : Document) → TakesChildren parent d → KeepsGrammar d.root → grammar_causes (taken_below parent d) t ≡ broken_grammar (document_after_insert parent index t d)
grammar-limits parent index t d k g = λ j. grammar
    (node-after is_badly_named (λ _. false) parent index t d k g.names j)
    (node-after (λ _ attributes. nat_lt MAX_ATTRIBUTES (length attributes)) (λ _. false) parent index t d k g.attributes j)
    (node-after (λ _ attributes. list_any (λ (a : Attribute). is_long a.1) attributes) is_long parent index t d k g.texts j)
    (sym (text_size-after parent index t d k) j)

insert-sizes : (parent index : ℕ) (t : Tree) (d : Document) → TakesChildren parent d → height d.root ≤ MAX_DEPTH
    → size_causes (taken_below parent d) t ≡ broken_sizes (document_after_insert parent index t d)
insert-sizes parent index t d k low = elim (none-or-some (level parent d.root)) [
  | inl none ↦
      let p = named-some (find parent d.root) k.1 in
      absurd (false≢true (sym (ap is_some none) ∙ (level-found parent d.root ∙ ap is_some p.1.0)))
  | inr some ↦
      ap (λ (o : Option ℕ). causes (nat_lt MAX_DEPTH (unwrap_or o 0 + depth t)) (node_count d.root + size t) (d.next_id + size t)) some.1
      ∙ λ j. causes (depth-limit parent index t d some.0 k some.1 low j) (sym (count-after parent index t d k) j) (d.next_id + size t)
]

insert-limits : (parent index : ℕ) (t : Tree) (d : Document) → TakesChildren parent d → KeepsLimits d
    → tree_causes (taken_below parent d) t ≡ broken_limits (document_after_insert parent index t d)
insert-limits parent index t d k keeps = λ j. grammar-limits parent index t d k keeps.grammar j ++ insert-sizes parent index t d k keeps.low j

skipped : (b : Bool) (r : Cause) (rs : Causes) → b ≡ false → first_of ((b, r) ∷ rs) ≡ first_of rs
skipped b r rs h = ap (λ (x : Bool). cond x (Some r) (first_of rs)) h

pub insert-refused : (parent index : ℕ) (t : Tree) (d : Document) → IsPlace parent index d → KeepsLimits d
    → first_of (insert_causes parent index t d) ≡ first_of (broken_limits (document_after_insert parent index t d))
insert-refused parent index t d place keeps =
    let p = named-some (find parent d.root) place.0.1 in
    let limits : Causes = tree_causes (taken_below parent d) t in
    let few : Causes = (nat_lt (child_count parent d.root) index, BadIndex) ∷ limits in
    skipped (is_none (find parent d.root)) NoNode ((is_none (name_at parent d.root), NotElement) ∷ few) (ap is_none p.1.0)
    ∙ (skipped (is_none (name_at parent d.root)) NotElement few (some-not-none (name_at parent d.root) place.0.1)
    ∙ (skipped (nat_lt (child_count parent d.root) index) BadIndex limits (le-ltb (child_count parent d.root) index place.1) ∙ ap first_of (insert-limits parent index t d place.0 keeps)))

zero-more : (n : ℕ) → 0 + n ≡ n
zero-more n = omega arith

pub load-grammar : (t : Tree) → grammar_causes nothing_taken t ≡ broken_grammar (document t)
load-grammar t =
    let same : t ≡ without_ids (with_ids 0 t) = sym (without-with_ids 0 t) in
    λ j. grammar (has_bad_name (same j)) (has_many_attributes (same j)) (has_long_text (same j)) ((zero-more (text_size t) ∙ ap text_size same) j)

load-sizes : (t : Tree) → size_causes nothing_taken t ≡ broken_sizes (document t)
load-sizes t = λ j. causes
    (nat_lt MAX_DEPTH ((zero-more (depth t) ∙ sym (height-with_ids 0 t)) j)) ((zero-more (size t) ∙ sym (node_count-with_ids 0 t)) j) (zero-more (size t) j)

pub load-refused : (t : Tree) → first_of (load_causes t) ≡ first_of (broken_limits (document t))
load-refused t = λ j. first_of (load-grammar t j ++ load-sizes t j)
