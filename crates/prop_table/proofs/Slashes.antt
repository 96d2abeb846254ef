-- Words before and after a `/`, one component value after another.
use Rattle.std.proofs.Common.{◌≡◌, ◌∙◌, ap, refl, sym, ℕ, zero, suc, ◌+◌, ◌<◌, List, [], ◌∷◌, ◌++◌, length, take, drop, get_or, add-one, append_assoc, false, arith, inl, inr}
use Rattle.std.proofs.lemmas.Bool.{cases_Bool}
use Rattle.css_model.specs.Components.{Component as ModelComponent}
use Rattle.css_tokens.specs.Nested.{component_view, components_view}
use Rattle.css_tokens.specs.declared.component.Component.{Component}
use Rattle.rules_model.specs.ComponentLists.{is_whitespace}
use Rattle.value_model.specs.Shorthands.{before_slash, after_slash, is_slash}
use Rattle.value_model.specs.Words.{words_of}

abbrev words : List Component → List ModelComponent
words cs = words_of (components_view cs)

words-append : (xs ys : List Component) → words (xs ++ ys) ≡ words xs ++ words ys
words-append [] ys = refl
words-append (x ∷ xs) ys = elim (cases_Bool (is_whitespace (component_view x))) [
  | inl t ↦ rw t (words-append xs ys)
  | inr f ↦ rw f (ap (λ ws. component_view x ∷ ws) (words-append xs ys))
]

-- one that is no slash stands before it
before-one : (c : Component) (rest : List Component) → is_slash (component_view c) ≡ false
    → words (c ∷ []) ++ before_slash (words rest) ≡ before_slash (words (c ∷ rest))
before-one c rest n = elim (cases_Bool (is_whitespace (component_view c))) [
  | inl t ↦ rw t refl
  | inr f ↦ rw (f, n) refl
]

after-one : (c : Component) (rest : List Component) → is_slash (component_view c) ≡ false
    → after_slash (words rest) ≡ after_slash (words (c ∷ rest))
after-one c rest n = elim (cases_Bool (is_whitespace (component_view c))) [
  | inl t ↦ rw t refl
  | inr f ↦ rw (f, n) refl
]

take-next : (cs : List Component) (at : ℕ) (c : Component) → at < length cs → c ≡ get_or cs at c
    → take (suc at) cs ≡ take at cs ++ c ∷ []
take-next [] at c h is = absurd (omega (arith, h))
take-next (d ∷ cs) zero c h is = ap (λ x. x ∷ []) (sym is)
take-next (d ∷ cs) (suc at) c h is = ap (λ xs. d ∷ xs) (take-next cs at c (omega (arith, h)) is)

drop-next : (cs : List Component) (at : ℕ) (c : Component) → at < length cs → c ≡ get_or cs at c
    → drop at cs ≡ c ∷ drop (suc at) cs
drop-next [] at c h is = absurd (omega (arith, h))
drop-next (d ∷ cs) zero c h is = ap (λ x. x ∷ cs) (sym is)
drop-next (d ∷ cs) (suc at) c h is = drop-next cs at c (omega (arith, h)) is

-- one more was passed
pub before-step : (cs : List Component) (at : ℕ) (c : Component) → at < length cs → c ≡ get_or cs at c
    → is_slash (component_view c) ≡ false
    → words (take (at + 1) cs) ++ before_slash (words (drop (at + 1) cs)) ≡ words (take at cs) ++ before_slash (words (drop at cs))
before-step cs at c h is n =
    let rest : List ModelComponent = before_slash (words (drop (suc at) cs)) in
    rw (add-one at) (ap (λ ds. words ds ++ rest) (take-next cs at c h is)
    ∙ (ap (λ ws. ws ++ rest) (words-append (take at cs) (c ∷ []))
    ∙ (append_assoc (words (take at cs)) (words (c ∷ [])) rest
    ∙ ap (λ ws. words (take at cs) ++ ws) (before-one c (drop (suc at) cs) n ∙ ap (λ ds. before_slash (words ds)) (sym (drop-next cs at c h is))))))

pub after-step : (cs : List Component) (at : ℕ) (c : Component) → at < length cs → c ≡ get_or cs at c
    → is_slash (component_view c) ≡ false → after_slash (words (drop (at + 1) cs)) ≡ after_slash (words (drop at cs))
after-step cs at c h is n =
    rw (add-one at) (after-one c (drop (suc at) cs) n ∙ ap (λ ds. after_slash (words ds)) (sym (drop-next cs at c h is)))
