-- The pieces between commas, split at the first one.
use Rattle.std.proofs.Common.{◌≡◌, ◌∙◌, ap, refl, sym, ℕ, suc, ◌+◌, ◌<◌, ◌≤◌, List, [], ◌∷◌, ◌++◌, length, take, drop, get_or, add-one, true, false}
use Rattle.css_model.specs.Components.{Components, no_components}
use Rattle.css_tokens.specs.Nested.{component_view, components_view}
use Rattle.css_tokens.specs.declared.component.Component.{Component}
use Rattle.rules_model.specs.ComponentLists.{is_token}
use Rattle.conditions_model.specs.MediaQueries.{between_commas, in_first_piece, is_comma_type}
use Rattle.size_features.proofs.Parts.{take-next, drop-next, take-all, drop-all}
use Rattle.media_conditions.specs.inner.Commas.{in_front}

in_front-push : (cs : List Component) (c : Component) (pieces : List Components)
    → in_front (cs ++ c ∷ []) pieces ≡ in_front cs (in_first_piece (component_view c) pieces)
in_front-push [] c pieces = refl
in_front-push (d ∷ cs) c pieces = ap (in_first_piece (component_view d)) (in_front-push cs c pieces)

pub in_front-piece : (cs : List Component) (pieces : List Components)
    → in_front cs (no_components ∷ pieces) ≡ components_view cs ∷ pieces
in_front-piece [] pieces = refl
in_front-piece (c ∷ cs) pieces = ap (in_first_piece (component_view c)) (in_front-piece cs pieces)

no-comma : (c : Component) (cs : List Component) → is_token is_comma_type (component_view c) ≡ false
    → in_first_piece (component_view c) (between_commas (components_view cs))
    ≡ between_commas (components_view (c ∷ cs))
no-comma c cs n = rw n refl

a-comma : (c : Component) (cs : List Component) → is_token is_comma_type (component_view c) ≡ true
    → no_components ∷ between_commas (components_view cs) ≡ between_commas (components_view (c ∷ cs))
a-comma c cs n = rw n refl

-- one more was passed
pub pieces-step : (cs : List Component) (at : ℕ) (c : Component) → at < length cs → c ≡ get_or cs at c
    → is_token is_comma_type (component_view c) ≡ false
    → in_front (take (at + 1) cs) (between_commas (components_view (drop (at + 1) cs)))
    ≡ in_front (take at cs) (between_commas (components_view (drop at cs)))
pieces-step cs at c h is n =
    let rest : List Components = between_commas (components_view (drop (suc at) cs)) in
    rw (add-one at) (ap (λ ds. in_front ds rest) (take-next cs at c h is)
    ∙ (in_front-push (take at cs) c rest
    ∙ ap (in_front (take at cs)) (no-comma c (drop (suc at) cs) n
    ∙ ap (λ ds. between_commas (components_view ds)) (sym (drop-next cs at c h is)))))

-- the first comma was found
pub pieces-found : (cs : List Component) (at : ℕ) (c : Component) → at < length cs → c ≡ get_or cs at c
    → is_token is_comma_type (component_view c) ≡ true
    → in_front (take at cs) (between_commas (components_view (drop at cs)))
    ≡ between_commas (components_view cs)
    → components_view (take at cs) ∷ between_commas (components_view (drop (at + 1) cs))
    ≡ between_commas (components_view cs)
pieces-found cs at c h is n front =
    let rest : List Components = between_commas (components_view (drop (suc at) cs)) in
    rw (add-one at) (sym (in_front-piece (take at cs) rest)
    ∙ (ap (in_front (take at cs)) (a-comma c (drop (suc at) cs) n
    ∙ ap (λ ds. between_commas (components_view ds)) (sym (drop-next cs at c h is)))
    ∙ front))

-- no comma was found
pub pieces-end : (cs : List Component) (at : ℕ) → length cs ≤ at
    → in_front (take at cs) (between_commas (components_view (drop at cs))) ≡ between_commas (components_view cs)
    → components_view cs ∷ [] ≡ between_commas (components_view cs)
pieces-end cs at h front =
    sym (in_front-piece cs [])
    ∙ (ap (λ ds. in_front ds (no_components ∷ [])) (sym (take-all cs at h))
    ∙ (ap (λ ds. in_front (take at cs) (between_commas (components_view ds))) (sym (drop-all cs at h))
    ∙ front))
