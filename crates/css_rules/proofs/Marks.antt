-- Where `! important` begins.
use Rattle.std.proofs.Common.{◌≡◌, ◌∙◌, ap, sym, refl, ℕ, zero, suc, ◌<◌, ◌+◌, ◌-◌, List, [], ◌∷◌, ◌++◌, Some, None, true, false, length, take, drop, get_or, arith}
use Rattle.std.proofs.lemmas.List.{length-drop, take_all}
use Rattle.css_model.specs.Components.{Component, Components, no_components, component}
use Rattle.css_model.specs.inner.Nesting.{followed}
use Rattle.css_tokens.specs.declared.component.Component as code
use Rattle.css_tokens.specs.Nested.{component_view, components_view}
use Rattle.rules_model.specs.ComponentLists.{is_whitespace, are_whitespace}
use Rattle.rules_model.specs.Declarations.{is_important_word, is_important_mark, has_important_mark, before_important_mark}
use Rattle.css_rules.specs.inner.Reading.{is_word_before_whitespace, IsMarkPlace}
use Rattle.css_rules.proofs.Parts.{followed-push, followed-end, view-drop}

-- ---- white space, and the word

pub white-step : (cs : List code.Component) (i : ℕ) (c : code.Component) → i < length cs
    → c ≡ get_or cs i c
    → is_whitespace (component_view c) ≡ true
    → are_whitespace (components_view (drop (i + 1) cs))
    ≡ are_whitespace (components_view (drop i cs))
white-step cs i c h is w = rw (view-drop cs i c h is, w) refl

pub white-stops : (cs : List code.Component) (i : ℕ) (c : code.Component) → i < length cs
    → c ≡ get_or cs i c
    → is_whitespace (component_view c) ≡ false
    → are_whitespace (components_view (drop i cs)) ≡ false
white-stops cs i c h is w = rw (view-drop cs i c h is, w) refl

pub word-step : (cs : List code.Component) (i : ℕ) (c : code.Component) → i < length cs
    → c ≡ get_or cs i c
    → is_whitespace (component_view c) ≡ true
    → is_important_word (components_view (drop (i + 1) cs))
    ≡ is_important_word (components_view (drop i cs))
word-step cs i c h is w = rw (view-drop cs i c h is, w) refl

pub word-stops : (cs : List code.Component) (i : ℕ) (c : code.Component) → i < length cs
    → c ≡ get_or cs i c
    → is_whitespace (component_view c) ≡ false
    → is_word_before_whitespace (components_view (drop i cs))
    ≡ is_important_word (components_view (drop i cs))
word-stops cs i c h is w = rw (view-drop cs i c h is, w) refl

-- ---- the mark

-- no mark begins before this place
pub record NoMarkBefore (cs : List code.Component) (place : ℕ) : Type 0 where
  pub has : has_important_mark (components_view cs)
      ≡ has_important_mark (components_view (drop place cs))
  pub before : before_important_mark (components_view cs)
      ≡ followed (components_view (take place cs))
      (before_important_mark (components_view (drop place cs)))

pub mark-here : (cs : Components) → is_important_mark cs ≡ true
    → (has_important_mark cs ≡ true) × (before_important_mark cs ≡ no_components)
mark-here no_components m = cc
mark-here (component c cs) m = (rw m refl, rw m refl)

mark-later : (c : Component) (cs : Components) → is_important_mark (component c cs) ≡ false
    → (has_important_mark (component c cs) ≡ has_important_mark cs)
    × (before_important_mark (component c cs) ≡ component c (before_important_mark cs))
mark-later c cs m = (rw m refl, rw m refl)

-- all of the items from a place on
pub rest-whole : (cs : List code.Component) (i : ℕ) → take (length cs - i) (drop i cs) ≡ drop i cs
rest-whole cs i =
    let size : length (drop i cs) ≡ length cs - i = length-drop i cs in
    take_all (length cs - i) (drop i cs) (omega (arith, size))

item-at : (cs : List code.Component) (i : ℕ) → i < length cs → (c : code.Component)
    × (c ≡ get_or cs i c)
item-at [] i h = absurd (omega (arith, h))
item-at (c ∷ cs) zero h = (c, refl)
item-at (c ∷ cs) (suc i) h = item-at cs i (omega (arith, h))

take-next : (cs : List code.Component) (i : ℕ) (c : code.Component) → i < length cs
    → c ≡ get_or cs i c
    → take (suc i) cs ≡ take i cs ++ c ∷ []
take-next [] i c h is = absurd (omega (arith, h))
take-next (d ∷ cs) zero c h is = ap (λ x. x ∷ []) (sym is)
take-next (d ∷ cs) (suc i) c h is = ap (λ xs. d ∷ xs) (take-next cs i c (omega (arith, h)) is)

take-more : (cs : List code.Component) (i : ℕ) (c : code.Component) → i < length cs
    → c ≡ get_or cs i c
    → take (i + 1) cs ≡ take i cs ++ c ∷ []
take-more cs i c h is = let one : i + 1 ≡ suc i = omega arith in
    ap (λ n. take n cs) one ∙ take-next cs i c h is

pub mark-step : (cs : List code.Component) (i : ℕ) → i < length cs
    → is_important_mark (components_view (drop i cs)) ≡ false → NoMarkBefore cs i
    → NoMarkBefore cs (i + 1)
mark-step cs i h m n =
    let item = item-at cs i h in
    let c : code.Component = item.0 in
    let is : c ≡ get_or cs i c = item.1 in
    let here = view-drop cs i c h is in
    let later =
    mark-later (component_view c) (components_view (drop (i + 1) cs))
    (sym (ap is_important_mark here) ∙ m) in
    record {
      has = n.has ∙ (ap has_important_mark here ∙ later.0);
      before = n.before
          ∙ (ap (λ ds. followed (components_view (take i cs)) (before_important_mark ds)) here
          ∙ (ap (followed (components_view (take i cs))) later.1
          ∙ (sym (followed-push (take i cs) c
          (before_important_mark (components_view (drop (i + 1) cs))))
          ∙ ap (λ ds. followed (components_view ds)
          (before_important_mark (components_view (drop (i + 1) cs))))
          (sym (take-more cs i c h is)))));
    }

pub mark-found : (cs : List code.Component) (i : ℕ)
    → is_important_mark (components_view (drop i cs)) ≡ true
    → NoMarkBefore cs i → IsMarkPlace (Some i) cs
mark-found cs i m n =
    let mark = mark-here (components_view (drop i cs)) m in (
      n.has ∙ mark.0,
      n.before ∙ (ap (followed (components_view (take i cs))) mark.1
          ∙ followed-end (components_view (take i cs))),
    )

pub mark-none : (cs : List code.Component) (i : ℕ) → drop i cs ≡ [] → take i cs ≡ cs
    → NoMarkBefore cs i → IsMarkPlace None cs
mark-none cs i d t n = (
  n.has ∙ ap (λ ds. has_important_mark (components_view ds)) d,
  n.before ∙ (ap (λ ds. followed (components_view (take i cs))
      (before_important_mark (components_view ds))) d
      ∙ (followed-end (components_view (take i cs)) ∙ ap components_view t)),
)
