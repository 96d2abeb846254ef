-- The first cause of several lists, and causes by what was measured of a tree.
use Rattle.std.proofs.Common.{IsErr, None, Ok, Err, Result, Some, [], ap, arith, inl, inr, le-ltb, lt-ltb, ltb-false, ltb-true, min, nat_lt, refl, sym, ℕ, ◌++◌, ◌+◌, ◌-◌, ◌<◌, ◌^◌, ◌||◌, ◌∙◌, ◌∷◌, ◌≡◌, ◌≢◌, ◌≤◌}
use Rattle.std.proofs.lemmas.Bool.{cases_Bool, false≢true}
use Rattle.page_laws.proofs.FirstOf.{append-first, append-second}
use Rattle.page_model.specs.Edits.{Taken, grammar_causes, size_causes}
use Rattle.page_model.specs.Refusals.{Causes, first_of}
use Rattle.page_model.specs.Trees.{Tree, depth, has_bad_name, has_long_text, has_many_attributes, size, text_size}
use Rattle.page_model.specs.declared.cause.Cause.{Cause}
use Rattle.page_model.specs.declared.cause.Cause.TheVariants as cause
use Rattle.page_model.specs.declared.limits.TheConstants.{MAX_DEPTH, MAX_IDS, MAX_NODES, MAX_TEXTS}
use Rattle.dom_arena.specs.Faults.{ChecksBy, cause_in}
use Rattle.dom_arena.specs.Measures.{measure_of}
use Rattle.dom_arena.specs.declared.fault.DocFault.{DocFault}
use Rattle.dom_arena.specs.declared.fault.DocFault.TheVariants.{NoMemory, NoNode, NotElement, NotText, IsRoot, Cycle, BadIndex, BadName, NodeLimit, DepthLimit, TextLimit, IdLimit, AttrLimit}
use Rattle.dom_arena.specs.declared.sizes.Measured.{Measured}

-- a fault that is not want of memory has a cause
pub cause-known : (e : DocFault) → e ≢ NoMemory → (c : Cause) × (cause_in e ≡ Some c)
cause-known NoMemory n = absurd (n refl)
cause-known NoNode n = (cause.NoNode, refl)
cause-known NotElement n = (cause.NotElement, refl)
cause-known NotText n = (cause.NotText, refl)
cause-known IsRoot n = (cause.IsRoot, refl)
cause-known Cycle n = (cause.Cycle, refl)
cause-known BadIndex n = (cause.BadIndex, refl)
cause-known BadName n = (cause.BadName, refl)
cause-known NodeLimit n = (cause.NodeLimit, refl)
cause-known DepthLimit n = (cause.DepthLimit, refl)
cause-known TextLimit n = (cause.TextLimit, refl)
cause-known IdLimit n = (cause.IdLimit, refl)
cause-known AttrLimit n = (cause.AttrLimit, refl)

-- a fault by the first of two lists of causes
pub checks-fault : {X : Type 0} (xs ys : Causes) (r : Result X DocFault) → IsErr r → ChecksBy xs r → ChecksBy (xs ++ ys) r
checks-fault xs ys (Err e) h k =
    let c = cause-known e k.0 in
    (k.0, append-first xs ys c.0 (k.1 ∙ c.1) ∙ sym c.1)
checks-fault xs ys (Ok x) h k = absurd (false≢true h)

-- an answer by causes with the same first one
pub checks-same : {X : Type 0} (xs ys : Causes) (r : Result X DocFault) → first_of xs ≡ first_of ys → ChecksBy ys r → ChecksBy xs r
checks-same xs ys (Ok x) e h = e ∙ h
checks-same xs ys (Err f) e h = (h.0, e ∙ h.1)

-- an answer by the second of two lists, where none of the first holds
pub checks-second : {X : Type 0} (xs ys : Causes) (r : Result X DocFault) → first_of xs ≡ None → ChecksBy ys r → ChecksBy (xs ++ ys) r
checks-second xs ys r none h = checks-same (xs ++ ys) ys r (append-second xs ys none) h

-- ---- numbers that end at the greatest of their type

lt-end : (m a x end : ℕ) → m < end → nat_lt m (a + min x end) ≡ nat_lt m (a + x)
lt-end m a x end h = elim (cases_Bool (nat_lt m (a + x))) [
  | inl t ↦ let over : m < a + x = ltb-true m (a + x) t in lt-ltb m (a + min x end) (omega (arith, over, h)) ∙ sym t
  | inr f ↦ let under : a + x ≤ m = ltb-false m (a + x) f in le-ltb m (a + min x end) (omega (arith, under)) ∙ sym f
]

-- the causes that were asked of a tree's measures
abbrev pub asked_grammar : Measured → Taken → Causes
asked_grammar m taken =
    (m.bad_name, cause.BadName) ∷ (m.many_attributes, cause.AttrLimit)
    ∷ (m.long_text || nat_lt MAX_TEXTS (taken.code_points + m.code_points), cause.TextLimit) ∷ []

abbrev pub asked_size : Measured → Taken → Causes
asked_size m taken =
    (nat_lt MAX_DEPTH (taken.level + m.levels), cause.DepthLimit) ∷ (nat_lt MAX_NODES (taken.nodes + m.nodes), cause.NodeLimit)
    ∷ (nat_lt MAX_IDS (taken.ids + m.nodes), cause.IdLimit) ∷ []

pub grammar-asked : (m : Measured) (taken : Taken) (t : Tree) → m ≡ measure_of t → asked_grammar m taken ≡ grammar_causes taken t
grammar-asked m taken t e =
    ap (λ (x : Measured). asked_grammar x taken) e
    ∙ λ j. (has_bad_name t, cause.BadName) ∷ (has_many_attributes t, cause.AttrLimit)
    ∷ (has_long_text t || lt-end MAX_TEXTS taken.code_points (text_size t) (2 ^ 64 - 1) (omega arith) j, cause.TextLimit) ∷ []

pub size-asked : (m : Measured) (taken : Taken) (t : Tree) → m ≡ measure_of t → asked_size m taken ≡ size_causes taken t
size-asked m taken t e =
    ap (λ (x : Measured). asked_size x taken) e
    ∙ λ j. (lt-end MAX_DEPTH taken.level (depth t) (2 ^ 32 - 1) (omega arith) j, cause.DepthLimit)
    ∷ (lt-end MAX_NODES taken.nodes (size t) (2 ^ 32 - 1) (omega arith) j, cause.NodeLimit)
    ∷ (lt-end MAX_IDS taken.ids (size t) (2 ^ 32 - 1) (omega arith) j, cause.IdLimit) ∷ []
