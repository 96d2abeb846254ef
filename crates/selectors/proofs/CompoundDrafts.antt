-- Drafts of compound selectors.
use Rattle.std.proofs.Common.{◌≡◌, ◌∙◌, ap, sym, refl, List, [], ◌∷◌, ◌++◌, ◌&&◌, map, Option, Some, None, Bool, true, false, inl, inr}
use Rattle.std.proofs.lemmas.List.{map-append}
use Rattle.std.specs.Prelude.{if◌then◌else◌}
use Rattle.std.proofs.lemmas.Bool.{cases_Bool}
use Rattle.css_model.proofs.Tests.{and-left, and-right}
use Rattle.selectors_model.specs.Grammar.{in_front, is_pseudo_element_selector, compound_has_pseudo_element}
use Rattle.selectors_model.specs.Selectors as model
use Rattle.selectors.specs.declared.reading.compounds.CompoundDraft.{CompoundDraft}
use Rattle.selectors.specs.declared.reading.compounds.Next.{Next}
use Rattle.selectors.specs.declared.reading.compounds.Next.TheVariants as variant
use Rattle.selectors.specs.declared.selector.Simple.{Simple}
use Rattle.selectors.specs.Views.{compound_of_simples, simple_view, compound_view}
use Rattle.selectors.specs.inner.Drafts.{permitted, all_in_front, rest_of, compound_after, Adds}

-- nothing is in front of what is no compound
pub all_in_front-none : (ss : List model.Simple) → all_in_front ss None ≡ None
all_in_front-none [] = refl
all_in_front-none (s ∷ ss) = ap (in_front (Some s)) (all_in_front-none ss)

pub all_in_front-whole : (ss : List model.Simple) → all_in_front ss (Some model.no_simples) ≡ Some (compound_of_simples ss)
all_in_front-whole [] = refl
all_in_front-whole (s ∷ ss) = ap (in_front (Some s)) (all_in_front-whole ss)

pub all_in_front-more : (ss : List model.Simple) (s : model.Simple) (c : Option model.Compound)
    → all_in_front (ss ++ s ∷ []) c ≡ all_in_front ss (in_front (Some s) c)
all_in_front-more [] s c = refl
all_in_front-more (t ∷ ss) s c = ap (in_front (Some t)) (all_in_front-more ss s c)

in_front-if : (b : Bool) (s : model.Simple) (c : model.Compound)
    → (if b then None else Some (model.simple s c)) ≡ in_front (Some s) (if b then None else Some c)
in_front-if true s c = refl
in_front-if false s c = refl

by-has : (b : Bool) (s : model.Simple) (c : model.Compound)
    → Some (model.simple s c) ≡ in_front (Some s) (if b && false then None else Some c)
by-has true s c = refl
by-has false s c = refl

-- a pseudo-element is not permitted in a function
permitted-forbidden : (f : Bool) (s : model.Simple) (c : Option model.Compound)
    → (is_pseudo_element_selector s && f) ≡ true → permitted f (in_front (Some s) c) ≡ None
permitted-forbidden f s None e = refl
permitted-forbidden f s (Some c) e =
    let pseudo : is_pseudo_element_selector s ≡ true = and-left (is_pseudo_element_selector s) f e in
    let within : f ≡ true = and-right (is_pseudo_element_selector s) f e in
    rw (pseudo, within) refl

permitted-front : (f : Bool) (s : model.Simple) (c : Option model.Compound)
    → (is_pseudo_element_selector s && f) ≡ false
    → permitted f (in_front (Some s) c) ≡ in_front (Some s) (permitted f c)
permitted-front f s None e = refl
permitted-front f s (Some c) e = elim (cases_Bool (is_pseudo_element_selector s)) [
  | inl t ↦ let outside : f ≡ false = rw t at e in rw (t, outside) (by-has (compound_has_pseudo_element c) s c)
  | inr n ↦ rw n (in_front-if (compound_has_pseudo_element c && f) s c)
]

-- a forbidden simple selector makes it invalid
pub added-forbidden : (f : Bool) (d : CompoundDraft) (s : Simple) (next : Next)
    → (is_pseudo_element_selector (simple_view s) && f) ≡ true
    → Adds f d (simple_view s) next (record { simples = d.simples; next = variant.Invalid })
added-forbidden f d s next e = λ atoms.
    ap (all_in_front (map simple_view d.simples)) (sym (permitted-forbidden f (simple_view s) (rest_of next atoms) e))

pub added-pushed : (f : Bool) (d : CompoundDraft) (s : Simple) (next : Next) (simples : List Simple)
    → (is_pseudo_element_selector (simple_view s) && f) ≡ false → simples ≡ d.simples ++ s ∷ []
    → Adds f d (simple_view s) next (record { simples = simples; next = next })
added-pushed f d s next simples e pushed = λ atoms.
    ap (λ ss. all_in_front (map simple_view ss) (permitted f (rest_of next atoms))) pushed
    ∙ (ap (λ ss. all_in_front ss (permitted f (rest_of next atoms))) (map-append simple_view d.simples (s ∷ []))
    ∙ (all_in_front-more (map simple_view d.simples) (simple_view s) (permitted f (rest_of next atoms))
    ∙ ap (all_in_front (map simple_view d.simples)) (sym (permitted-front f (simple_view s) (rest_of next atoms) e))))

-- where nothing need be next, the draft is a compound
pub ended-whole : (f complete : Bool) (old d : CompoundDraft) → d ≡ old
    → rest_of d.next [] ≡ (if complete then Some model.no_simples else None) → complete ≡ true
    → Some (compound_view d.simples) ≡ compound_after f old []
ended-whole f complete old d is e t =
    sym (all_in_front-whole (map simple_view d.simples))
    ∙ (ap (λ c. all_in_front (map simple_view d.simples) (permitted f c)) (sym (rw t at e))
    ∙ ap (λ d. compound_after f d []) is)

pub ended-invalid : (f complete : Bool) (old d : CompoundDraft) → d ≡ old
    → rest_of d.next [] ≡ (if complete then Some model.no_simples else None) → complete ≡ false
    → None ≡ compound_after f old []
ended-invalid f complete old d is e t =
    sym (all_in_front-none (map simple_view d.simples))
    ∙ (ap (λ c. all_in_front (map simple_view d.simples) (permitted f c)) (sym (rw t at e))
    ∙ ap (λ d. compound_after f d []) is)
