-- A document in which the content of a node was changed breaks no limit.
use Rattle.page_model.specs.declared.cause.Cause.TheVariants.{AttrLimit, BadName, NoNode, NotElement, NotText, TextLimit}
use Rattle.page_model.specs.Refusals.{Causes, first_of}
use Rattle.page_laws.specs.Ids.{HasGivenIds}
use Rattle.page_laws.proofs.FirstOf.{first-false}
use Rattle.std.proofs.Common.{Bool, List, None, Some, [], ap, arith, cond, eq-eqb, eqb-true, false, inl, inr, is_none, is_some, le-ltb, length, ltb-false, nat_lt, not, refl, subst, sym, true, ℕ, ◌==◌, ◌||◌, ◌∙◌, ◌∷◌, ◌≡◌, ◌≤◌}
use Rattle.std.proofs.lemmas.Bool.{cases_Bool, false≢true}
use Rattle.std.proofs.lemmas.Option.{none-some, same_Some}
use Rattle.std.specs.List.{list_any}
use Rattle.page_laws.proofs.Find.{find-id, found-absent, unfound-absent}
use Rattle.page_laws.proofs.IsAmong.{distinct-left, distinct-right}
use Rattle.page_laws.proofs.Options.{if-found, not-none, or-false, or-found}
use Rattle.page_laws.proofs.TreeAfterChange.{attributes_at-found, changed-absent, has_node-changed, height-changed, ids-changed, nodes_changed-absent}
use Rattle.page_laws.specs.Limits.{KeepsGrammar, KeepsLimits}
use Rattle.page_model.specs.Attributes.{is_less_text, is_same_text, with_attribute, without_attribute}
use Rattle.page_model.specs.Document.{AreDistinct, Document, IsAmong, Node, Nodes, all_ids, all_without_ids, attributes_at, attributes_of, element, find, find_in, id_of, ids, name_at, no_nodes, node, text, without_ids}
use Rattle.page_model.specs.Edits.{document_after_drop_attr, document_after_set_attr, document_after_set_text, is_over_text_limit, nodes_after_change, set_attr_causes, set_text_causes, tree_after_change, tree_after_drop_attr, tree_after_set_attr, tree_after_set_text}
use Rattle.page_model.specs.Names.{is_name}
use Rattle.page_model.specs.Trees.{Attribute, Text, has_node, have_node, is_badly_named, is_long, text_size, text_sizes, value_size}
use Rattle.page_model.specs.declared.limits.TheConstants.{MAX_ATTRIBUTES, MAX_DEPTH, MAX_NODES, MAX_TEXTS}

pub or-both : (a b : Bool) → a ≡ false → b ≡ false → (a || b) ≡ false
or-both a b h k = rw (h, k) refl

-- ---- texts

pub text-grammar : (i : ℕ) (cs : Text) (r : Node) → is_long cs ≡ false → KeepsGrammar r → KeepsGrammar (tree_after_set_text i cs r)
text-grammar i cs r short g = record {
  names = has_node-changed is_badly_named (λ _. false) i (λ xs. xs) (λ _. cs) r (λ _ _ h. h) (λ _ _. refl) g.names;
  attributes = has_node-changed (λ _ xs. nat_lt MAX_ATTRIBUTES (length xs)) (λ _. false) i (λ xs. xs) (λ _. cs) r (λ _ _ h. h) (λ _ _. refl) g.attributes;
  texts = has_node-changed (λ _ xs. list_any (λ (a : Attribute). is_long a.1) xs) is_long i (λ xs. xs) (λ _. cs) r (λ _ _ h. h) (λ _ _. short) g.texts;
}

-- ---- an attribute is dropped

any-without : (test : Attribute → Bool) (name : Text) (xs : List Attribute) → list_any test xs ≡ false → list_any test (without_attribute name xs) ≡ false
any-without test name [] h = h
any-without test name (a ∷ xs) h =
    let parts = or-false (test a) (list_any test xs) h in
    elim (cases_Bool (is_same_text name a.0)) [
      | inl t ↦ rw t (any-without test name xs parts.1)
      | inr f ↦ rw f (or-both (test a) (list_any test (without_attribute name xs)) parts.0 (any-without test name xs parts.1))
    ]

length-without : (name : Text) (xs : List Attribute) → length (without_attribute name xs) ≤ length xs
length-without name [] = omega arith
length-without name (a ∷ xs) =
    let rest = length-without name xs in
    elim (cases_Bool (is_same_text name a.0)) [
      | inl t ↦ rw t (omega (arith, rest))
      | inr f ↦ rw f (omega (arith, rest))
    ]

pub dropped-grammar : (i : ℕ) (name : Text) (r : Node) → KeepsGrammar r → KeepsGrammar (tree_after_drop_attr i name r)
dropped-grammar i name r g = record {
  names = has_node-changed is_badly_named (λ _. false) i (without_attribute name) (λ cs. cs) r
      (λ n xs h.
      let parts = or-false (not (is_name n)) (list_any (λ (a : Attribute). not (is_name a.0)) xs) h in
      or-both (not (is_name n)) (list_any (λ (a : Attribute). not (is_name a.0)) (without_attribute name xs)) parts.0 (any-without (λ (a : Attribute). not (is_name a.0)) name xs parts.1))
      (λ _ h. h) g.names;
  attributes = has_node-changed (λ _ xs. nat_lt MAX_ATTRIBUTES (length xs)) (λ _. false) i (without_attribute name) (λ cs. cs) r
      (λ _ xs h.
      let few : length xs ≤ MAX_ATTRIBUTES = ltb-false MAX_ATTRIBUTES (length xs) h in
      le-ltb MAX_ATTRIBUTES (length (without_attribute name xs)) (omega (arith, few, length-without name xs)))
      (λ _ h. h) g.attributes;
  texts = has_node-changed (λ _ xs. list_any (λ (a : Attribute). is_long a.1) xs) is_long i (without_attribute name) (λ cs. cs) r
      (λ _ xs h. any-without (λ (a : Attribute). is_long a.1) name xs h) (λ _ h. h) g.texts;
}

-- ---- an attribute is set

any-with : (test : Attribute → Bool) (name value : Text) (xs : List Attribute) → test (name, value) ≡ false → list_any test xs ≡ false → list_any test (with_attribute name value xs) ≡ false
any-with test name value [] new h = or-both (test (name, value)) false new refl
any-with test name value (a ∷ xs) new h =
    let parts = or-false (test a) (list_any test xs) h in
    elim (cases_Bool (is_same_text name a.0)) [
      | inl t ↦ rw t (or-both (test (name, value)) (list_any test xs) new parts.1)
      | inr f ↦ elim (cases_Bool (is_less_text name a.0)) [
        | inl t ↦ rw (f, t) (or-both (test (name, value)) (list_any test (a ∷ xs)) new h)
        | inr g ↦ rw (f, g) (or-both (test a) (list_any test (with_attribute name value xs)) parts.0 (any-with test name value xs new parts.1))
      ]
    ]

-- whether a node by itself passes
abbrev passes : (Text → List Attribute → Bool) → (Text → Bool) → Node → Bool
passes e t (element id name attributes children) = e name attributes
passes e t (text id cs) = t cs

-- what no node of the tree is, none of the tree after is, where the changed node is not
mutual
  changed-at : (e : Text → List Attribute → Bool) (t : Text → Bool) (i : ℕ) (a : List Attribute → List Attribute) (c : Text → Text) (n x : Node) → AreDistinct (ids n) → find i n ≡ Some x
      → passes e t (tree_after_change i a c x) ≡ false → has_node e t (without_ids n) ≡ false → has_node e t (without_ids (tree_after_change i a c n)) ≡ false
  changed-at e t i a c (element id name attributes children) x d f p h =
      let parts = or-false (e name attributes) (have_node e t (all_without_ids children)) h in
      elim (if-found (i == id) (element id name attributes children) x (find_in i children) f) [
        | inl k ↦
            let same : element id name attributes children ≡ x = same_Some (element id name attributes children) x k.1 in
            let below : nodes_after_change i a c children ≡ children = nodes_changed-absent i a c children (λ m. d.0 (subst (λ (q : ℕ). IsAmong q (all_ids children)) (eqb-true i id k.0) m)) in
            let own : passes e t (tree_after_change i a c (element id name attributes children)) ≡ false = ap (λ (z : Node). passes e t (tree_after_change i a c z)) same ∙ p in
            or-both (e name (cond (i == id) (a attributes) attributes)) (have_node e t (all_without_ids (nodes_after_change i a c children))) own (rw below parts.1)
        | inr k ↦ rw k.0 (or-both (e name attributes) (have_node e t (all_without_ids (nodes_after_change i a c children))) parts.0 (changed-below e t i a c children x d.1 k.1 p parts.1))
      ]
  changed-at e t i a c (text id cs) x d f p h = elim (if-found (i == id) (text id cs) x None f) [
    | inl k ↦
        let same : text id cs ≡ x = same_Some (text id cs) x k.1 in
        ap (λ (z : Node). passes e t (tree_after_change i a c z)) same ∙ p
    | inr k ↦ absurd (none-some x k.1)
  ]

  changed-below : (e : Text → List Attribute → Bool) (t : Text → Bool) (i : ℕ) (a : List Attribute → List Attribute) (c : Text → Text) (ns : Nodes) (x : Node) → AreDistinct (all_ids ns) → find_in i ns ≡ Some x
      → passes e t (tree_after_change i a c x) ≡ false → have_node e t (all_without_ids ns) ≡ false → have_node e t (all_without_ids (nodes_after_change i a c ns)) ≡ false
  changed-below e t i a c no_nodes x d f p h = absurd (none-some x f)
  changed-below e t i a c (node n ns) x d f p h =
      let parts = or-false (has_node e t (without_ids n)) (have_node e t (all_without_ids ns)) h in
      elim (or-found (find i n) (find_in i ns) x f) [
        | inl k ↦
            let rest : nodes_after_change i a c ns ≡ ns = nodes_changed-absent i a c ns (found-absent i n x ns d k) in
            rw rest (or-both (has_node e t (without_ids (tree_after_change i a c n))) (have_node e t (all_without_ids ns)) (changed-at e t i a c n x (distinct-left (ids n) (all_ids ns) d) k p parts.0) parts.1)
        | inr k ↦
            let first : tree_after_change i a c n ≡ n = changed-absent i a c n (unfound-absent i n k.0) in
            rw first (or-both (has_node e t (without_ids n)) (have_node e t (all_without_ids (nodes_after_change i a c ns))) parts.0
            (changed-below e t i a c ns x (distinct-right (ids n) (all_ids ns) d) k.1 p parts.1))
      ]

few-set : (i : ℕ) (g : List Attribute → List Attribute) (x : Node) → i ≡ id_of x → nat_lt MAX_ATTRIBUTES (length (g (attributes_of x))) ≡ false
    → passes (λ _ xs. nat_lt MAX_ATTRIBUTES (length xs)) (λ _. false) (tree_after_change i g (λ cs. cs) x) ≡ false
few-set i g (element id name attributes children) e h = rw (eq-eqb i id e) h
few-set i g (text id cs) e h = refl

pub set-grammar : (i : ℕ) (name value : Text) (r x : Node) → AreDistinct (ids r) → find i r ≡ Some x → is_name name ≡ true → is_long value ≡ false
    → nat_lt MAX_ATTRIBUTES (length (with_attribute name value (attributes_of x))) ≡ false → KeepsGrammar r → KeepsGrammar (tree_after_set_attr i name value r)
set-grammar i name value r x d f good short few g = record {
  names = has_node-changed is_badly_named (λ _. false) i (with_attribute name value) (λ cs. cs) r
      (λ n xs h.
      let parts = or-false (not (is_name n)) (list_any (λ (a : Attribute). not (is_name a.0)) xs) h in
      or-both (not (is_name n)) (list_any (λ (a : Attribute). not (is_name a.0)) (with_attribute name value xs)) parts.0
      (any-with (λ (a : Attribute). not (is_name a.0)) name value xs (ap not good) parts.1))
      (λ _ h. h) g.names;
  attributes = changed-at (λ _ xs. nat_lt MAX_ATTRIBUTES (length xs)) (λ _. false) i (with_attribute name value) (λ cs. cs) r x d f (few-set i (with_attribute name value) x (find-id i r x f) few) g.attributes;
  texts = has_node-changed (λ _ xs. list_any (λ (a : Attribute). is_long a.1) xs) is_long i (with_attribute name value) (λ cs. cs) r
      (λ _ xs h. any-with (λ (a : Attribute). is_long a.1) name value xs short h) (λ _ h. h) g.texts;
}

-- ---- documents

-- the limits that are no matter of texts stay
pub limits-changed : (d : Document) (i : ℕ) (a : List Attribute → List Attribute) (t : Text → Text) → KeepsLimits d → KeepsGrammar (tree_after_change i a t d.root)
    → text_size (without_ids (tree_after_change i a t d.root)) ≤ MAX_TEXTS → KeepsLimits (record { root = tree_after_change i a t d.root; next_id = d.next_id })
limits-changed d i a t h grammar points = record {
  grammar = grammar;
  code_points = points;
  low = subst (λ (l : ℕ). l ≤ MAX_DEPTH) (sym (height-changed i a t d.root)) h.low;
  few = subst (λ (xs : List ℕ). length xs ≤ MAX_NODES) (sym (ids-changed i a t d.root)) h.few;
  given = h.given;
}

pub kept-text : (i : ℕ) (cs : Text) (d : Document) → KeepsLimits d → first_of (set_text_causes i cs d) ≡ None → KeepsLimits (document_after_set_text i cs d)
kept-text i cs d keeps h =
    let after : Node = tree_after_set_text i cs d.root in
    let long : Causes = (is_long cs || is_over_text_limit after, TextLimit) ∷ [] in
    let a = first-false (is_none (find i d.root)) NoNode ((is_some (name_at i d.root), NotText) ∷ long) h in
    let b = first-false (is_some (name_at i d.root)) NotText long a.1 in
    let c = first-false (is_long cs || is_over_text_limit after) TextLimit [] b.1 in
    let parts = or-false (is_long cs) (is_over_text_limit after) c.0 in
    limits-changed d i (λ xs. xs) (λ _. cs) keeps (text-grammar i cs d.root parts.0 keeps.grammar) (ltb-false MAX_TEXTS (text_size (without_ids after)) parts.1)

value-without : (name : Text) (xs : List Attribute) → value_size (without_attribute name xs) ≤ value_size xs
value-without name [] = omega arith
value-without name (a ∷ xs) =
    let rest = value-without name xs in
    elim (cases_Bool (is_same_text name a.0)) [
      | inl t ↦ rw t (omega (arith, rest))
      | inr f ↦ rw f (omega (arith, rest))
    ]

mutual
  less-dropped : (i : ℕ) (name : Text) (n : Node) → text_size (without_ids (tree_after_drop_attr i name n)) ≤ text_size (without_ids n)
  less-dropped i name (element id tag attributes children) =
      let own = value-without name attributes in
      let below = all-less-dropped i name children in
      elim (cases_Bool (i == id)) [
        | inl t ↦ rw t (omega (arith, own, below))
        | inr f ↦ rw f (omega (arith, below))
      ]
  less-dropped i name (text id cs) = elim (cases_Bool (i == id)) [
    | inl t ↦ rw t (omega arith)
    | inr f ↦ rw f (omega arith)
  ]

  all-less-dropped : (i : ℕ) (name : Text) (ns : Nodes)
      → text_sizes (all_without_ids (nodes_after_change i (without_attribute name) (λ cs. cs) ns)) ≤ text_sizes (all_without_ids ns)
  all-less-dropped i name no_nodes = omega arith
  all-less-dropped i name (node n ns) =
      let head = less-dropped i name n in
      let rest = all-less-dropped i name ns in
      omega (arith, head, rest)

pub kept-dropped : (i : ℕ) (name : Text) (d : Document) → KeepsLimits d → KeepsLimits (document_after_drop_attr i name d)
kept-dropped i name d keeps =
    let less = less-dropped i name d.root in
    limits-changed d i (without_attribute name) (λ cs. cs) keeps (dropped-grammar i name d.root keeps.grammar) (omega (arith, less, keeps.code_points))

pub not-false : (b : Bool) → not b ≡ false → b ≡ true
not-false true h = refl
not-false false h = absurd (false≢true (sym h))

pub kept-set : (i : ℕ) (name value : Text) (d : Document) → HasGivenIds d → KeepsLimits d → first_of (set_attr_causes i name value d) ≡ None → KeepsLimits (document_after_set_attr i name value d)
kept-set i name value d given keeps h =
    let after : Node = tree_after_set_attr i name value d.root in
    let count : ℕ = length (with_attribute name value (attributes_at i d.root)) in
    let many : Causes = (nat_lt MAX_ATTRIBUTES count, AttrLimit) ∷ [] in
    let long : Causes = (is_long value || is_over_text_limit after, TextLimit) ∷ many in
    let bad : Causes = (not (is_name name), BadName) ∷ long in
    let a = first-false (is_none (find i d.root)) NoNode ((is_none (name_at i d.root), NotElement) ∷ bad) h in
    let b = first-false (is_none (name_at i d.root)) NotElement bad a.1 in
    let c = first-false (not (is_name name)) BadName long b.1 in
    let e = first-false (is_long value || is_over_text_limit after) TextLimit many c.1 in
    let f = first-false (nat_lt MAX_ATTRIBUTES count) AttrLimit [] e.1 in
    let parts = or-false (is_long value) (is_over_text_limit after) e.0 in
    let x = not-none (find i d.root) a.0 in
    let few : nat_lt MAX_ATTRIBUTES (length (with_attribute name value (attributes_of x.0))) ≡ false =
    ap (λ xs. nat_lt MAX_ATTRIBUTES (length (with_attribute name value xs))) (sym (attributes_at-found i d.root x.0 x.1)) ∙ f.0 in
    limits-changed d i (with_attribute name value) (λ cs. cs) keeps (set-grammar i name value d.root x.0 given.0 x.1 (not-false (is_name name) c.0) parts.0 few keeps.grammar)
    (ltb-false MAX_TEXTS (text_size (without_ids after)) parts.1)
