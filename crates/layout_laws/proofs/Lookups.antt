-- The assignment that a list is.
use Rattle.std.proofs.Common.{List, Some, ap, eq-eqb, eqb-true, inl, inr, map, refl, subst, sym, ℕ, ◌++◌, ◌==◌, ◌∙◌, ◌≡◌}
use Rattle.std.specs.Prelude.{[], ◌∷◌}
use Rattle.std.proofs.lemmas.Bool.{cases_Bool}
use Rattle.std.proofs.lemmas.List.{map-append}
use Rattle.std.proofs.lemmas.Option.{none-some}
use Rattle.flow_model.specs.declared.containing.Containing.{Containing}
use Rattle.layout_model.specs.Above.{Above, Cascade}
use Rattle.layout_model.specs.Entries.{Assignment, Entry}
use Rattle.layout_model.specs.Laid.{Says, all_laid, assignment_of, below_element, containing_below, laid}
use Rattle.page_laws.proofs.IsAmong.{among-other, among-rest}
use Rattle.page_laws.proofs.Options.{if-found}
use Rattle.page_model.specs.Document.{AreDistinct, IsAmong, Node, Nodes, element, no_nodes, node, text}
use Rattle.selectors_model.specs.Matching.{elements_among, elements_of}

abbrev pub key : ℕ × Entry → ℕ
key e = e.0

abbrev pub keys : List (ℕ × Entry) → List ℕ
keys es = map key es

-- ---- what is laid has the ids of the elements

mutual
  pub laid-keys : (styling : Cascade) (above : Above) (around : Containing) (n : Node) → keys (laid styling above around n) ≡ elements_of n
  laid-keys styling above around (element id name attributes children) =
      ap (λ (is : List ℕ). id ∷ is) (all_laid-keys styling (below_element styling above id) (containing_below styling above around id children) children)
  laid-keys styling above around (text id cs) = refl

  pub all_laid-keys : (styling : Cascade) (above : Above) (around : Containing) (ns : Nodes) → keys (all_laid styling above around ns) ≡ elements_among ns
  all_laid-keys styling above around no_nodes = refl
  all_laid-keys styling above around (node n ns) =
      let first : keys (laid styling above around n) ≡ elements_of n = laid-keys styling above around n in
      let rest : keys (all_laid styling above around ns) ≡ elements_among ns = all_laid-keys styling above around ns in
      map-append key (laid styling above around n) (all_laid styling above around ns) ∙ (λ j. first j ++ rest j)

-- ---- look-ups

pub lookup-some : (i : ℕ) (es : List (ℕ × Entry)) → IsAmong i (keys es) → (x : Entry) × (assignment_of es i ≡ Some x)
lookup-some i [] h = absurd h
lookup-some i (e ∷ es) h = elim (cases_Bool (i == e.0)) [
  | inl t ↦ (e.1, rw t refl)
  | inr f ↦ let rest = lookup-some i es (among-rest i e.0 (keys es) f h) in (rest.0, rw f rest.1)
]

pub lookup-among : (i : ℕ) (es : List (ℕ × Entry)) (x : Entry) → assignment_of es i ≡ Some x → IsAmong i (keys es)
lookup-among i [] x h = absurd (none-some x h)
lookup-among i (e ∷ es) x h = elim (if-found (i == e.0) e.1 x (assignment_of es i) h) [
  | inl k ↦ inl (eqb-true i e.0 k.0)
  | inr k ↦ inr (lookup-among i es x k.1)
]

-- what an assignment says that says what the list does
pub says-lookup : (a : Assignment) (es : List (ℕ × Entry)) → Says a es → (i : ℕ) (x : Entry) → assignment_of es i ≡ Some x → a i ≡ Some x
says-lookup a [] h i x found = absurd (none-some x found)
says-lookup a (e ∷ es) h i x found = elim (if-found (i == e.0) e.1 x (assignment_of es i) found) [
  | inl k ↦ subst (λ (j : ℕ). a j ≡ Some x) (sym (eqb-true i e.0 k.0)) (h.0 ∙ k.1)
  | inr k ↦ says-lookup a es h.1 i x k.1
]

-- ---- a list without an id that stands twice says itself

says-shift : (a b : Assignment) (es : List (ℕ × Entry)) → ((i : ℕ) → IsAmong i (keys es) → a i ≡ b i) → Says b es → Says a es
says-shift a b [] same h = tt
says-shift a b (e ∷ es) same h = (same e.0 (inl refl) ∙ h.0, says-shift a b es (λ i k. same i (inr k)) h.1)

pub says-itself : (es : List (ℕ × Entry)) → AreDistinct (keys es) → Says (assignment_of es) es
says-itself [] d = tt
says-itself (e ∷ es) d = (
  rw (eq-eqb e.0 e.0 refl) refl,
  says-shift (assignment_of (e ∷ es)) (assignment_of es) es
      (λ i h. rw (among-other i e.0 (keys es) d h) refl)
      (says-itself es d.1),
)
