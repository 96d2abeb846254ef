-- The document after an edit of a node's own content, and the causes of its refusal, by slots.
use Rattle.std.proofs.Common.{Bool, IsSome, List, None, Option, Some, [], ap, arith, eq-eqb, false, inl, inr, is_none, is_some, length, ltb-false, nat_lt, not, refl, subst, sym, true, ℕ, ◌+◌, ◌||◌, ◌∙◌, ◌∷◌, ◌≡◌, ◌≤◌}
use Rattle.std.proofs.lemmas.Bool.{false≢true}
use Rattle.std.proofs.lemmas.Option.{none-some, same_Some}
use Rattle.page_laws.proofs.Find.{find-id}
use Rattle.page_laws.proofs.Options.{or-false}
use Rattle.page_laws.proofs.TreeAfterChange.{attributes_at-found}
use Rattle.page_laws.specs.Limits.{own_text_size}
use Rattle.page_model.specs.Attributes.{are_in_order, with_attribute, without_attribute}
use Rattle.page_model.specs.Names.{is_name}
use Rattle.page_model.specs.Document.{Node, attributes_at, attributes_of, by_itself, element, find, id_of, name_at, name_of, no_nodes, text, without_ids}
use Rattle.page_model.specs.Edits.{document_after_drop_attr, document_after_set_attr, document_after_set_text, drop_attr_causes, is_over_text_limit, set_attr_causes, set_text_causes, tree_after_change, tree_after_set_attr, tree_after_set_text}
use Rattle.page_model.specs.Refusals.{Causes, first_of}
use Rattle.page_model.specs.Trees.{Attribute, Text, is_long, text_size, value_size}
use Rattle.page_model.specs.declared.cause.Cause.TheVariants.{NoNode, NotElement, NotText, BadName, TextLimit, AttrLimit}
use Rattle.page_model.specs.declared.limits.TheConstants.{MAX_ATTRIBUTES, MAX_TEXTS}
use Rattle.dom_arena.proofs.Changed.{Edited, doc-edited, points-edited, smaller-edited}
use Rattle.dom_arena.proofs.Answered.{answered, cause-same, is-none, named-by, none-holds, none-same, ok-both}
use Rattle.dom_arena.proofs.NodeAt.{IsAt, at-or-absent, name-at}
use Rattle.dom_arena.proofs.AttributeSpots.{spot-count, spot-length, spot-size, spot-size-without}
use Rattle.page_laws.proofs.ChangedLimits.{dropped-grammar, set-grammar, text-grammar, not-false}
use Rattle.dom_arena.proofs.Docs.{doc-facts, read-attributes, read-live, read-name}
use Rattle.dom_arena.proofs.Written.{body-parts}
use Rattle.dom_arena.specs.Cells.{body_of}
use Rattle.dom_arena.specs.Contents.{attr_causes, drop_causes, kept_after, kept_changed, others_of, size_with, size_without, text_causes, total_with, with_attributes}
use Rattle.dom_arena.specs.Docs.{IsDoc, document_in}
use Rattle.dom_arena.specs.Faults.{AnswersBy}
use Rattle.dom_arena.specs.Reading.{tree_in}
use Rattle.dom_arena.specs.Rename.{rename}
use Rattle.dom_arena.specs.Slots.{attributes_in, attributes_in_slot, id_at, name_in_slot, own_in, table_at}
use Rattle.dom_arena.specs.Spots.{count_with, spot_of}
use Rattle.dom_arena.specs.Stores.{Kept, slot_by_id}
use Rattle.dom_arena.specs.declared.fault.DocFault.{DocFault}
use Rattle.dom_arena.specs.declared.slot.Content.{Content}
use Rattle.dom_arena.specs.declared.slot.Content.TheVariants.{Chars, Element, Free}
use Rattle.dom_arena.specs.declared.slot.Slot.{Slot}
use Rattle.std.specs.Prelude.{Result, OnOk, OnErr}

-- ---- texts

text-own : (y : ℕ) (cs : Text) (m : Node) → y ≡ id_of m → name_of m ≡ None → own_in y (Chars cs) ≡ Some (by_itself (tree_after_change y (λ xs. xs) (λ _. cs) m))
text-own y cs (element id name attributes children) e h = absurd (none-some name (sym h))
text-own y cs (text id ds) e h = rw (eq-eqb y id e) (ap (λ z. Some (text z cs)) e)

text-size : (y : ℕ) (cs : Text) (m : Node) → y ≡ id_of m → name_of m ≡ None → length cs ≡ own_text_size (tree_after_change y (λ xs. xs) (λ _. cs) m)
text-size y cs (element id name attributes children) e h = absurd (none-some name (sym h))
text-size y cs (text id ds) e h = rw (eq-eqb y id e) refl

text-edited : (k : Kept) (x i : ℕ) (cs : Text) (d : IsDoc k x) (p : IsAt k x i) → name_at i (document_in k x).root ≡ None
    → Edited k x i p.y (λ _. Chars cs) (length cs) (λ xs. xs) (λ _. cs) p.m p.s
text-edited k x i cs d p h =
    let number : p.y ≡ id_of p.m = find-id p.y (tree_in k.slots x) p.m p.found in
    let none : name_of p.m ≡ None = sym (name-at k x i d p) ∙ h in
    record {
      doc = d;
      at = p.at;
      found = p.found;
      slot = p.slot;
      body = p.body;
      own = text-own p.y cs p.m number none;
      size = text-size p.y cs p.m number none;
    }

-- the causes by the slot are the causes by the document
pub text-causes : (k : Kept) (x i : ℕ) (cs : Text) → IsDoc k x → first_of (text_causes (slot_by_id k i) k.code_points cs) ≡ first_of (set_text_causes i cs (document_in k x))
text-causes k x i cs d = elim (at-or-absent k x i d) [
  | inr none ↦ rw (none.0, none.1) refl
  | inl p ↦
      let r : Node = (document_in k x).root in
      let late : ℕ → Causes = λ n. (is_long cs || nat_lt MAX_TEXTS n, TextLimit) ∷ [] in
      let old : ℕ = total_with k.code_points (slot_by_id k i) (length cs) in
      let new : ℕ = text_size (without_ids (tree_after_set_text i cs r)) in
      cause-same (is_none (slot_by_id k i)) (is_none (find i r)) NoNode ((is_some (name_in_slot (slot_by_id k i)), NotText) ∷ late old) ((is_some (name_at i r), NotText) ∷ late new)
      (ap is_none p.by_id ∙ sym (ap is_none p.node)) (λ _.
      cause-same (is_some (name_in_slot (slot_by_id k i))) (is_some (name_at i r)) NotText (late old) (late new) (ap is_some (read-name k x i d)) (λ h.
      ap (λ n. first_of (late n))
      (ap (λ o. total_with k.code_points o (length cs)) p.by_id
      ∙ points-edited k x i p.y (λ _. Chars cs) (length cs) (λ xs. xs) (λ _. cs) p.m p.s (text-edited k x i cs d p (is-none (name_at i r) h)))))
]

pub text-set : (k k' : Kept) (x i : ℕ) (cs : Text) → IsDoc k x → first_of (set_text_causes i cs (document_in k x)) ≡ None → k' ≡ kept_after k (table_at k.table i) (λ _. Chars cs) (length cs)
    → (document_in k' x ≡ document_after_set_text i cs (document_in k x)) × IsDoc k' x
text-set k k' x i cs d none same = elim (at-or-absent k x i d) [
  | inr gone ↦ absurd (none-some NoNode (sym none ∙ rw gone.1 refl))
  | inl p ↦
      let r : Node = (document_in k x).root in
      let late : Causes = (is_long cs || is_over_text_limit (tree_after_set_text i cs r), TextLimit) ∷ [] in
      let one = none-holds (is_none (find i r)) NoNode ((is_some (name_at i r), NotText) ∷ late) none in
      let two = none-holds (is_some (name_at i r)) NotText late one.1 in
      let three = none-holds (is_long cs || is_over_text_limit (tree_after_set_text i cs r)) TextLimit [] two.1 in
      let parts = or-false (is_long cs) (is_over_text_limit (tree_after_set_text i cs r)) three.0 in
      let fits : text_size (without_ids (tree_after_set_text i cs r)) ≤ MAX_TEXTS = ltb-false MAX_TEXTS (text_size (without_ids (tree_after_set_text i cs r))) parts.1 in
      let e = text-edited k x i cs d p (is-none (name_at i r) two.0) in
      let now : k' ≡ kept_changed k p.y (λ _. Chars cs) (length cs) = same ∙ ap (λ o. kept_after k o (λ _. Chars cs) (length cs)) p.at in
      subst (λ (q : Kept). (document_in q x ≡ document_after_set_text i cs (document_in k x)) × IsDoc q x) (sym now)
      (doc-edited k x i p.y (λ _. Chars cs) (length cs) (λ xs. xs) (λ _. cs) p.m p.s e (text-grammar i cs r parts.0 d.limits.grammar) fits)
]

pub text-answered : {X : Type 0} (k k' : Kept) (x i : ℕ) (cs : Text) (r : Result X DocFault) → IsDoc k x
    → OnOk r (k' ≡ kept_after k (table_at k.table i) (λ _. Chars cs) (length cs)) → AnswersBy (text_causes (slot_by_id k i) k.code_points cs) r → OnErr r (k' ≡ k)
    → IsDoc k' x × OnOk r (document_in k' x ≡ document_after_set_text i cs (document_in k x)) × AnswersBy (set_text_causes i cs (document_in k x)) r
text-answered k k' x i cs r d set causes same =
    answered (k' ≡ kept_after k (table_at k.table i) (λ _. Chars cs) (length cs)) k k' x (document_after_set_text i cs (document_in k x)) (text_causes (slot_by_id k i) k.code_points cs) (set_text_causes i cs (document_in k x)) r d
    (text-causes k x i cs d) (λ none is. text-set k k' x i cs d none is) set causes same

-- ---- attributes

-- the attributes that the slot has are the node's
attributes-at : (k : Kept) (x i : ℕ) (d : IsDoc k x) (p : IsAt k x i) → attributes_in p.s.content ≡ attributes_of p.m
attributes-at k x i d p =
    ap attributes_in_slot (sym p.by_id) ∙ (read-attributes k x i d ∙ (attributes_at-found i (document_in k x).root (rename (id_at k.slots) p.m) p.node ∙ renamed p.m))
  where
    renamed : (m : Node) → attributes_of (rename (id_at k.slots) m) ≡ attributes_of m
    renamed (element id name attributes children) = refl
    renamed (text id cs) = refl

attributes-own : (y : ℕ) (g : List Attribute → List Attribute) (c : Content) (m : Node) → y ≡ id_of m → IsSome (name_of m) → own_in y c ≡ Some (by_itself m)
    → own_in y (with_attributes g c) ≡ Some (by_itself (tree_after_change y g (λ cs. cs) m))
attributes-own y g (Element n xs) (element id name attributes children) e h o =
    let same : element y n xs no_nodes ≡ element id name attributes no_nodes = same_Some (element y n xs no_nodes) (element id name attributes no_nodes) o in
    let names : n ≡ name = same_Some n name (ap name_of same) in
    let lists : xs ≡ attributes = ap attributes_of same in
    rw (eq-eqb y id e) (λ j. Some (element (e j) (names j) (g (lists j)) no_nodes))
attributes-own y g (Chars cs) (element id name attributes children) e h o =
    absurd (none-some name (ap name_of (same_Some (text y cs) (element id name attributes no_nodes) o)))
attributes-own y g (Free next) (element id name attributes children) e h o = absurd (none-some (element id name attributes no_nodes) o)
attributes-own y g c (text id cs) e h o = absurd (false≢true h)

attributes-size : (y : ℕ) (g : List Attribute → List Attribute) (m : Node) → y ≡ id_of m → IsSome (name_of m) → own_text_size (tree_after_change y g (λ cs. cs) m) ≡ value_size (g (attributes_of m))
attributes-size y g (element id name attributes children) e h = rw (eq-eqb y id e) refl
attributes-size y g (text id cs) e h = absurd (false≢true h)

own-size : (m : Node) → IsSome (name_of m) → own_text_size m ≡ value_size (attributes_of m)
own-size (element id name attributes children) h = refl
own-size (text id cs) h = absurd (false≢true h)

-- the slot has the size of its attributes
slot-size : (k : Kept) (x i : ℕ) (d : IsDoc k x) (p : IsAt k x i) → IsSome (name_of p.m) → p.s.size ≡ value_size (attributes_in p.s.content)
slot-size k x i d p h = (body-parts p.y p.s (body_of p.m) p.body).4 ∙ (own-size p.m h ∙ ap value_size (sym (attributes-at k x i d p)))

attributes-edited : (k : Kept) (x i : ℕ) (g : List Attribute → List Attribute) (points : ℕ) (d : IsDoc k x) (p : IsAt k x i) → IsSome (name_at i (document_in k x).root)
    → points ≡ value_size (g (attributes_in p.s.content)) → Edited k x i p.y (with_attributes g) points g (λ cs. cs) p.m p.s
attributes-edited k x i g points d p named size =
    let number : p.y ≡ id_of p.m = find-id p.y (tree_in k.slots x) p.m p.found in
    let some : IsSome (name_of p.m) = ap is_some (sym (name-at k x i d p)) ∙ named in
    record {
      doc = d;
      at = p.at;
      found = p.found;
      slot = p.slot;
      body = p.body;
      own = attributes-own p.y g p.s.content p.m number some (body-parts p.y p.s (body_of p.m) p.body).0;
      size = size ∙ (ap (λ xs. value_size (g xs)) (attributes-at k x i d p) ∙ sym (attributes-size p.y g p.m number some));
    }

-- ---- an attribute is dropped

size-dropped : (k : Kept) (x i : ℕ) (name : Text) (d : IsDoc k x) (p : IsAt k x i) → IsSome (name_at i (document_in k x).root) → are_in_order (attributes_in p.s.content) ≡ true
    → size_without (Some p.s) name ≡ value_size (without_attribute name (attributes_in p.s.content))
size-dropped k x i name d p named order =
    let parts = spot-size-without name (attributes_in p.s.content) order in
    let own = slot-size k x i d p (ap is_some (sym (name-at k x i d p)) ∙ named) in
    omega (arith, parts, own)

pub drop-causes : (k : Kept) (x i : ℕ) → IsDoc k x → first_of (drop_causes (slot_by_id k i)) ≡ first_of (drop_attr_causes i (document_in k x))
drop-causes k x i d =
    let r : Node = (document_in k x).root in
    cause-same (is_none (slot_by_id k i)) (is_none (find i r)) NoNode ((is_none (name_in_slot (slot_by_id k i)), NotElement) ∷ []) ((is_none (name_at i r), NotElement) ∷ [])
    (none-same (slot_by_id k i) (find i r) (read-live k x i d))
    (λ _. cause-same (is_none (name_in_slot (slot_by_id k i))) (is_none (name_at i r)) NotElement [] [] (ap is_none (read-name k x i d)) (λ _. refl))

pub attr-dropped : (k k' : Kept) (x i : ℕ) (name : Text) → IsDoc k x → are_in_order (attributes_in_slot (slot_by_id k i)) ≡ true → first_of (drop_attr_causes i (document_in k x)) ≡ None
    → k' ≡ kept_after k (table_at k.table i) (with_attributes (without_attribute name)) (size_without (slot_by_id k i) name) → (document_in k' x ≡ document_after_drop_attr i name (document_in k x)) × IsDoc k' x
attr-dropped k k' x i name d order none same = elim (at-or-absent k x i d) [
  | inr gone ↦ absurd (none-some NoNode (sym none ∙ rw gone.1 refl))
  | inl p ↦
      let r : Node = (document_in k x).root in
      let one = none-holds (is_none (find i r)) NoNode ((is_none (name_at i r), NotElement) ∷ []) none in
      let two = none-holds (is_none (name_at i r)) NotElement [] one.1 in
      let named : IsSome (name_at i r) = named-by (name_at i r) two.0 in
      let points : ℕ = size_without (slot_by_id k i) name in
      let size : points ≡ value_size (without_attribute name (attributes_in p.s.content)) =
      ap (λ o. size_without o name) p.by_id ∙ size-dropped k x i name d p named (ap (λ o. are_in_order (attributes_in_slot o)) (sym p.by_id) ∙ order) in
      let e = attributes-edited k x i (without_attribute name) points d p named size in
      let less : points ≤ p.s.size = subst (λ (o : Option Slot). size_without o name ≤ p.s.size) (sym p.by_id) (omega arith) in
      let now : k' ≡ kept_changed k p.y (with_attributes (without_attribute name)) points = same ∙ ap (λ o. kept_after k o (with_attributes (without_attribute name)) points) p.at in
      subst (λ (q : Kept). (document_in q x ≡ document_after_drop_attr i name (document_in k x)) × IsDoc q x) (sym now)
      (doc-edited k x i p.y (with_attributes (without_attribute name)) points (without_attribute name) (λ cs. cs) p.m p.s e (dropped-grammar i name r d.limits.grammar)
      (smaller-edited k x i p.y (with_attributes (without_attribute name)) points (without_attribute name) (λ cs. cs) p.m p.s e less))
]

pub drop-answered : {X : Type 0} (k k' : Kept) (x i : ℕ) (name : Text) (r : Result X DocFault) → IsDoc k x
    → OnOk r (k' ≡ kept_after k (table_at k.table i) (with_attributes (without_attribute name)) (size_without (slot_by_id k i) name)) → OnOk r (are_in_order (attributes_in_slot (slot_by_id k i)) ≡ true)
    → AnswersBy (drop_causes (slot_by_id k i)) r → OnErr r (k' ≡ k)
    → IsDoc k' x × OnOk r (document_in k' x ≡ document_after_drop_attr i name (document_in k x)) × AnswersBy (drop_attr_causes i (document_in k x)) r
drop-answered k k' x i name r d set order causes same =
    let After : Type 0 = k' ≡ kept_after k (table_at k.table i) (with_attributes (without_attribute name)) (size_without (slot_by_id k i) name) in
    let Ordered : Type 0 = are_in_order (attributes_in_slot (slot_by_id k i)) ≡ true in
    answered (After × Ordered) k k' x (document_after_drop_attr i name (document_in k x)) (drop_causes (slot_by_id k i)) (drop_attr_causes i (document_in k x)) r d (drop-causes k x i d)
    (λ none did. attr-dropped k k' x i name d did.1 none did.0) (ok-both After Ordered r set order) causes same

-- ---- an attribute is set

size-set : (k : Kept) (x i : ℕ) (name value : Text) (d : IsDoc k x) (p : IsAt k x i) → IsSome (name_at i (document_in k x).root)
    → size_with (Some p.s) name value ≡ value_size (with_attribute name value (attributes_in p.s.content))
size-set k x i name value d p named =
    let xs : List Attribute = attributes_in p.s.content in
    let parts = spot-size name value xs in
    let less = spot-length xs (spot_of name xs) in
    let own = slot-size k x i d p (ap is_some (sym (name-at k x i d p)) ∙ named) in
    omega (arith, parts, less, own)

-- the code points of all texts with the attribute
points-set : (k : Kept) (x i : ℕ) (name value : Text) (d : IsDoc k x) (p : IsAt k x i) → IsSome (name_at i (document_in k x).root)
    → others_of k.code_points (slot_by_id k i) name + length value ≡ text_size (without_ids (tree_after_set_attr i name value (document_in k x).root))
points-set k x i name value d p named =
    let points : ℕ = size_with (Some p.s) name value in
    let e = attributes-edited k x i (with_attribute name value) points d p named (size-set k x i name value d p named) in
    let all = points-edited k x i p.y (with_attributes (with_attribute name value)) points (with_attribute name value) (λ cs. cs) p.m p.s e in
    let sum : others_of k.code_points (Some p.s) name + length value ≡ total_with k.code_points (Some p.s) points = omega arith in
    ap (λ o. others_of k.code_points o name + length value) p.by_id ∙ (sum ∙ all)

-- the causes that a name, a value and their number are
abbrev value_causes : Text → Text → ℕ → ℕ → Causes
value_causes name value points count =
    (not (is_name name), BadName) ∷ (is_long value || nat_lt MAX_TEXTS points, TextLimit) ∷ (nat_lt MAX_ATTRIBUTES count, AttrLimit) ∷ []

pub attr-causes : (k : Kept) (x i : ℕ) (name value : Text) → IsDoc k x → first_of (attr_causes (slot_by_id k i) k.code_points name value) ≡ first_of (set_attr_causes i name value (document_in k x))
attr-causes k x i name value d = elim (at-or-absent k x i d) [
  | inr none ↦ rw (none.0, none.1) refl
  | inl p ↦
      let r : Node = (document_in k x).root in
      let o : Option Slot = slot_by_id k i in
      let points : ℕ = others_of k.code_points o name + length value in
      let points' : ℕ = text_size (without_ids (tree_after_set_attr i name value r)) in
      let count : ℕ = count_with (spot_of name (attributes_in_slot o)) (length (attributes_in_slot o)) in
      let count' : ℕ = length (with_attribute name value (attributes_at i r)) in
      let same_count : count ≡ count' = spot-count name value (attributes_in_slot o) ∙ ap (λ xs. length (with_attribute name value xs)) (read-attributes k x i d) in
      cause-same (is_none o) (is_none (find i r)) NoNode ((is_none (name_in_slot o), NotElement) ∷ value_causes name value points count) ((is_none (name_at i r), NotElement) ∷ value_causes name value points' count')
      (ap is_none p.by_id ∙ sym (ap is_none p.node)) (λ _.
      cause-same (is_none (name_in_slot o)) (is_none (name_at i r)) NotElement (value_causes name value points count) (value_causes name value points' count') (ap is_none (read-name k x i d)) (λ h.
      let same_points : points ≡ points' = points-set k x i name value d p (named-by (name_at i r) h) in
      λ j. first_of (value_causes name value (same_points j) (same_count j))))
]

pub attr-set : (k k' : Kept) (x i : ℕ) (name value : Text) → IsDoc k x → first_of (set_attr_causes i name value (document_in k x)) ≡ None
    → k' ≡ kept_after k (table_at k.table i) (with_attributes (with_attribute name value)) (size_with (slot_by_id k i) name value) → (document_in k' x ≡ document_after_set_attr i name value (document_in k x)) × IsDoc k' x
attr-set k k' x i name value d none same = elim (at-or-absent k x i d) [
  | inr gone ↦ absurd (none-some NoNode (sym none ∙ rw gone.1 refl))
  | inl p ↦
      let r : Node = (document_in k x).root in
      let after : ℕ = text_size (without_ids (tree_after_set_attr i name value r)) in
      let count : ℕ = length (with_attribute name value (attributes_at i r)) in
      let one = none-holds (is_none (find i r)) NoNode ((is_none (name_at i r), NotElement) ∷ value_causes name value after count) none in
      let two = none-holds (is_none (name_at i r)) NotElement (value_causes name value after count) one.1 in
      let three = none-holds (not (is_name name)) BadName ((is_long value || nat_lt MAX_TEXTS after, TextLimit) ∷ (nat_lt MAX_ATTRIBUTES count, AttrLimit) ∷ []) two.1 in
      let four = none-holds (is_long value || nat_lt MAX_TEXTS after) TextLimit ((nat_lt MAX_ATTRIBUTES count, AttrLimit) ∷ []) three.1 in
      let five = none-holds (nat_lt MAX_ATTRIBUTES count) AttrLimit [] four.1 in
      let parts = or-false (is_long value) (nat_lt MAX_TEXTS after) four.0 in
      let named : IsSome (name_at i r) = named-by (name_at i r) two.0 in
      let points : ℕ = size_with (slot_by_id k i) name value in
      let size : points ≡ value_size (with_attribute name value (attributes_in p.s.content)) = ap (λ o. size_with o name value) p.by_id ∙ size-set k x i name value d p named in
      let e = attributes-edited k x i (with_attribute name value) points d p named size in
      let m : Node = rename (id_at k.slots) p.m in
      let few : nat_lt MAX_ATTRIBUTES (length (with_attribute name value (attributes_of m))) ≡ false =
      ap (λ xs. nat_lt MAX_ATTRIBUTES (length (with_attribute name value xs))) (sym (attributes_at-found i r m p.node)) ∙ five.0 in
      let now : k' ≡ kept_changed k p.y (with_attributes (with_attribute name value)) points = same ∙ ap (λ o. kept_after k o (with_attributes (with_attribute name value)) points) p.at in
      subst (λ (q : Kept). (document_in q x ≡ document_after_set_attr i name value (document_in k x)) × IsDoc q x) (sym now)
      (doc-edited k x i p.y (with_attributes (with_attribute name value)) points (with_attribute name value) (λ cs. cs) p.m p.s e
      (set-grammar i name value r m (doc-facts k x d).ids.0 p.node (not-false (is_name name) three.0) parts.0 few d.limits.grammar) (ltb-false MAX_TEXTS after parts.1))
]

pub set-answered : {X : Type 0} (k k' : Kept) (x i : ℕ) (name value : Text) (r : Result X DocFault) → IsDoc k x
    → OnOk r (k' ≡ kept_after k (table_at k.table i) (with_attributes (with_attribute name value)) (size_with (slot_by_id k i) name value)) → AnswersBy (attr_causes (slot_by_id k i) k.code_points name value) r → OnErr r (k' ≡ k)
    → IsDoc k' x × OnOk r (document_in k' x ≡ document_after_set_attr i name value (document_in k x)) × AnswersBy (set_attr_causes i name value (document_in k x)) r
set-answered k k' x i name value r d set causes same =
    answered (k' ≡ kept_after k (table_at k.table i) (with_attributes (with_attribute name value)) (size_with (slot_by_id k i) name value)) k k' x (document_after_set_attr i name value (document_in k x))
    (attr_causes (slot_by_id k i) k.code_points name value) (set_attr_causes i name value (document_in k x)) r d (attr-causes k x i name value d) (λ none is. attr-set k k' x i name value d none is) set causes same
