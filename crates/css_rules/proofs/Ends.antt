-- The ends of lists of component values.
use Rattle.std.proofs.Common.{◌≡◌, ◌∙◌, ap, sym, refl, inl, inr, ℕ, zero, suc, ◌<◌, ◌+◌, List, [], ◌∷◌, ◌++◌, Option, Some, None, Bool, true, false, length, take, get_or, arith, ◌&&◌}
use Rattle.std.proofs.lemmas.Bool.{cases_Bool, false≢true}
use Rattle.std.proofs.lemmas.List.{take-append-le, length_push}
use Rattle.css_model.specs.Components.{Component, Components, no_components, component}
use Rattle.css_tokens.specs.declared.component.Component as code
use Rattle.css_tokens.specs.Nested.{component_view, components_view}
use Rattle.rules_model.specs.ComponentLists.{is_whitespace, are_whitespace, without_end_whitespace}
use Rattle.css_rules.specs.inner.Reading.{ends_with, IsLast}

pub ends-push : (test : Component → Bool) (xs : List code.Component) (x : code.Component)
    → ends_with test (components_view (xs ++ x ∷ [])) ≡ test (component_view x)
ends-push test [] x = refl
ends-push test (y ∷ []) x = refl
ends-push test (y ∷ z ∷ xs) x = ends-push test (z ∷ xs) x

-- the last item of a list
pub last-ends : (test : Component → Bool) (cs : List code.Component) (n : ℕ) (last : code.Component)
    → length cs ≡ suc n → last ≡ get_or cs n last
    → test (component_view last) ≡ ends_with test (components_view cs)
last-ends test [] n last h is = absurd (omega (arith, h))
last-ends test (c ∷ []) zero last h is = ap (λ d. test (component_view d)) is
last-ends test (c ∷ []) (suc n) last h is = absurd (omega (arith, h))
last-ends test (c ∷ d ∷ cs) zero last h is = absurd (omega (arith, h))
last-ends test (c ∷ d ∷ cs) (suc n) last h is = last-ends test (d ∷ cs) n last (omega (arith, h)) is

white-push : (xs : List code.Component) (x : code.Component)
    → is_whitespace (component_view x) ≡ true
    → are_whitespace (components_view (xs ++ x ∷ [])) ≡ are_whitespace (components_view xs)
white-push [] x w = rw w refl
white-push (y ∷ xs) x w = ap (λ b. is_whitespace (component_view y) && b) (white-push xs x w)

end-push : (xs : List code.Component) (x : code.Component) → is_whitespace (component_view x) ≡ true
    → without_end_whitespace (components_view (xs ++ x ∷ []))
    ≡ without_end_whitespace (components_view xs)
end-push [] x w = rw w refl
end-push (y ∷ xs) x w =
    rw (white-push xs x w, end-push xs x w) refl

not-white : (c : Component) (cs : Components) → ends_with is_whitespace (component c cs) ≡ false
    → are_whitespace (component c cs) ≡ false
not-white c no_components e = rw e refl
not-white c (component d cs) e = elim (cases_Bool (is_whitespace c)) [
  | inl w ↦ rw w (not-white d cs e)
  | inr w ↦ rw w refl
]

pub end-done : (cs : Components) → ends_with is_whitespace cs ≡ false
    → without_end_whitespace cs ≡ cs
end-done no_components e = refl
end-done (component c no_components) e = rw (not-white c no_components e) refl
end-done (component c (component d cs)) e =
    rw (not-white c (component d cs) e) (ap (component c) (end-done (component d cs) e))

-- white space at the end was dropped
pub end-passed : (o : Option code.Component) (old new : List code.Component) → IsLast o old new
    → ends_with is_whitespace (components_view old) ≡ true
    → (without_end_whitespace (components_view new) ≡ without_end_whitespace (components_view old))
    × (length new < length old)
end-passed None old new n b =
    absurd (false≢true (sym (ap (λ cs. ends_with is_whitespace (components_view cs)) n.0) ∙ b))
end-passed (Some c) old new n b =
    let white : is_whitespace (component_view c) ≡ true =
    sym (ends-push is_whitespace new c)
    ∙ (ap (λ cs. ends_with is_whitespace (components_view cs)) (sym n) ∙ b) in (
      sym (ap (λ cs. without_end_whitespace (components_view cs)) n ∙ end-push new c white),
      omega (arith, ap length n, length_push new c),
    )

-- one that is past the first ones was dropped
pub take-passed : (k : ℕ) (o : Option code.Component) (old new : List code.Component)
    → IsLast o old new
    → k < length old → (take k new ≡ take k old) × (length new < length old)
take-passed k None old new n h = absurd (omega (arith, ap length n.0, h))
take-passed k (Some c) old new n h =
    let size : length old ≡ length new + 1 = ap length n ∙ length_push new c in (
      sym (ap (take k) n ∙ take-append-le k new (c ∷ []) (omega (arith, size, h))),
      omega (arith, size),
    )
