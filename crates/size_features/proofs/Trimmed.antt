-- Component values without the white space at their end, one more at a time.
use Rattle.std.proofs.Common.{◌≡◌, ◌∙◌, ap, refl, sym, ℕ, ◌+◌, ◌<◌, ◌≤◌, if◌then◌else◌, List, [], ◌∷◌, ◌++◌, length, take, get_or, add-one, Bool, true, false, inl, inr, arith}
use Rattle.std.proofs.lemmas.Bool.{cases_Bool}
use Rattle.css_model.specs.Components.{component}
use Rattle.css_tokens.specs.Nested.{component_view, components_view}
use Rattle.css_tokens.specs.declared.component.Component.{Component}
use Rattle.size_features.proofs.Parts.{take-next}
use Rattle.rules_model.specs.ComponentLists.{is_whitespace, are_whitespace, without_end_whitespace}

white-more : (cs : List Component) (c : Component) → is_whitespace (component_view c) ≡ true
    → are_whitespace (components_view (cs ++ c ∷ [])) ≡ are_whitespace (components_view cs)
white-more [] c t = rw t refl
white-more (d ∷ cs) c t = rw (white-more cs c t) refl

-- white space at the end takes no part
pub end-white : (cs : List Component) (c : Component) → is_whitespace (component_view c) ≡ true
    → without_end_whitespace (components_view (cs ++ c ∷ []))
    ≡ without_end_whitespace (components_view cs)
end-white [] c t = rw t refl
end-white (d ∷ cs) c t = rw (white-more cs c t, end-white cs c t) refl

not-white-more : (cs : List Component) (c : Component) → is_whitespace (component_view c) ≡ false
    → are_whitespace (components_view (cs ++ c ∷ [])) ≡ false
not-white-more [] c f = rw f refl
not-white-more (d ∷ cs) c f = elim (cases_Bool (is_whitespace (component_view d))) [
  | inl t ↦ rw (t, not-white-more cs c f) refl
  | inr g ↦ rw g refl
]

-- all stay before one that is not white space
pub end-not-white : (cs : List Component) (c : Component) → is_whitespace (component_view c) ≡ false
    → without_end_whitespace (components_view (cs ++ c ∷ [])) ≡ components_view (cs ++ c ∷ [])
end-not-white [] c f = rw f refl
end-not-white (d ∷ cs) c f = elim (cases_Bool (is_whitespace (component_view d))) [
  | inl t ↦ rw (t, not-white-more cs c f) (ap (component (component_view d)) (end-not-white cs c f))
  | inr g ↦ rw g (ap (component (component_view d)) (end-not-white cs c f))
]

-- one more was passed
pub trim-step : (cs : List Component) (at end : ℕ) (c : Component) → at < length cs → c ≡ get_or cs at c
    → without_end_whitespace (components_view (take at cs)) ≡ components_view (take end cs)
    → (b : Bool) → is_whitespace (component_view c) ≡ b
    → without_end_whitespace (components_view (take (at + 1) cs))
    ≡ components_view (take (if b then end else (at + 1)) cs)
trim-step cs at end c h is same true w =
    rw (add-one at) (ap (λ ds. without_end_whitespace (components_view ds)) (take-next cs at c h is)
    ∙ (end-white (take at cs) c w ∙ same))
trim-step cs at end c h is same false w =
    rw (add-one at) (ap (λ ds. without_end_whitespace (components_view ds)) (take-next cs at c h is)
    ∙ (end-not-white (take at cs) c w ∙ ap components_view (sym (take-next cs at c h is))))

pub end-step : (at end : ℕ) (b : Bool) → end ≤ at → (if b then end else (at + 1)) ≤ at + 1
end-step at end true h = omega (arith, h)
end-step at end false h = omega (arith, h)
