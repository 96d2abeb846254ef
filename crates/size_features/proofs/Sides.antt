-- The sides of component values, split at their first sign.
use Rattle.std.proofs.Common.{◌≡◌, ◌∙◌, ap, refl, sym, ℕ, suc, ◌+◌, ◌<◌, ◌≤◌, List, [], ◌∷◌, ◌++◌, length, take, drop, get_or, add-one, Some, None}
use Rattle.css_model.specs.Components.{no_components}
use Rattle.css_tokens.specs.Nested.{component_view, components_view}
use Rattle.css_tokens.specs.declared.component.Component.{Component}
use Rattle.conditions_model.specs.declared.comparison.Comparison.{Comparison}
use Rattle.conditions_model.specs.SizeFeatures.{Sides, last_side, side, in_first_side, sides_of, sign_of, after_sign}
use Rattle.size_features.specs.inner.Signs.{in_front}
use Rattle.size_features.proofs.Parts.{take-next, drop-next, take-all, drop-all}

-- ---- what is before a sign

in_front-push : (cs : List Component) (c : Component) (rest : Sides)
    → in_front (cs ++ c ∷ []) rest ≡ in_front cs (in_first_side (component_view c) rest)
in_front-push [] c rest = refl
in_front-push (d ∷ cs) c rest = ap (in_first_side (component_view d)) (in_front-push cs c rest)

pub in_front-last : (cs : List Component) → in_front cs (last_side no_components) ≡ last_side (components_view cs)
in_front-last [] = refl
in_front-last (c ∷ cs) = ap (in_first_side (component_view c)) (in_front-last cs)

pub in_front-side : (cs : List Component) (sign : Comparison) (rest : Sides)
    → in_front cs (side no_components sign rest) ≡ side (components_view cs) sign rest
in_front-side [] sign rest = refl
in_front-side (c ∷ cs) sign rest = ap (in_first_side (component_view c)) (in_front-side cs sign rest)

no-sign : (c : Component) (cs : List Component) → sign_of (component_view c) ≡ None
    → in_first_side (component_view c) (sides_of (components_view cs)) ≡ sides_of (components_view (c ∷ cs))
no-sign c cs n = rw n refl

-- one more was passed
pub sides-step : (cs : List Component) (at : ℕ) (c : Component) → at < length cs → c ≡ get_or cs at c
    → sign_of (component_view c) ≡ None
    → in_front (take (at + 1) cs) (sides_of (components_view (drop (at + 1) cs)))
    ≡ in_front (take at cs) (sides_of (components_view (drop at cs)))
sides-step cs at c h is n =
    let rest : Sides = sides_of (components_view (drop (suc at) cs)) in
    rw (add-one at) (ap (λ ds. in_front ds rest) (take-next cs at c h is)
    ∙ (in_front-push (take at cs) c rest
    ∙ ap (in_front (take at cs)) (no-sign c (drop (suc at) cs) n
    ∙ ap (λ ds. sides_of (components_view ds)) (sym (drop-next cs at c h is)))))

-- ---- a sign

a-sign : (c : Component) (cs : List Component) (sign : Comparison) → sign_of (component_view c) ≡ Some sign
    → sides_of (components_view (c ∷ cs)) ≡ after_sign sign (sides_of (components_view cs))
a-sign c cs sign n = rw n refl

-- the first sign was found
pub sides-found : (cs : List Component) (at : ℕ) (c : Component) → at < length cs → c ≡ get_or cs at c
    → (sign with_equal : Comparison) (after : Sides) → sign_of (component_view c) ≡ Some sign
    → side no_components with_equal after ≡ after_sign sign (sides_of (components_view (drop (at + 1) cs)))
    → in_front (take at cs) (sides_of (components_view (drop at cs))) ≡ sides_of (components_view cs)
    → side (components_view (take at cs)) with_equal after ≡ sides_of (components_view cs)
sides-found cs at c h is sign with_equal after n e front =
    sym (in_front-side (take at cs) with_equal after)
    ∙ (ap (in_front (take at cs)) (e ∙ rw (add-one at) (sym (a-sign c (drop (suc at) cs) sign n)
    ∙ ap (λ ds. sides_of (components_view ds)) (sym (drop-next cs at c h is))))
    ∙ front)

-- no sign was found
pub sides-end : (cs : List Component) (at : ℕ) → length cs ≤ at
    → in_front (take at cs) (sides_of (components_view (drop at cs))) ≡ sides_of (components_view cs)
    → last_side (components_view cs) ≡ sides_of (components_view cs)
sides-end cs at h front =
    sym (in_front-last cs)
    ∙ (ap (λ ds. in_front ds (last_side no_components)) (sym (take-all cs at h))
    ∙ (ap (λ ds. in_front (take at cs) (sides_of (components_view ds))) (sym (drop-all cs at h))
    ∙ front))
