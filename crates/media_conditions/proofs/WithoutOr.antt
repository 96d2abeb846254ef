-- Conditions without `or` between their parts.
use Rattle.std.proofs.Common.{◌≡◌, ◌∙◌, ap, refl, sym, subst, ◌||◌, List, [], ◌∷◌, codes, Option, Some, None, option_map, Bool, true, false, true≢false, inl, inr}
use Rattle.std.proofs.lemmas.Bool.{cases_Bool}
use Rattle.std.proofs.lemmas.Slice.Eq.{bytes_eq-Decides}
use Rattle.std.specs.List.{list_any}
use Rattle.std.specs.Option.{option_or}
use Rattle.std.specs.Str.{bytes_eq, str_to_ascii_lowercase}
use Rattle.css_model.specs.Classes.{Text}
use Rattle.conditions_model.specs.ConditionTrees.{ConditionTree, any_of}
use Rattle.conditions_model.specs.ConditionWords.{part, ident, other_word, is_keyword, more_parts, joined_by, condition_without_or, condition_of_words}
use Rattle.conditions_model.specs.SizeFeatures.{SizeFeature}
use Rattle.media_conditions.specs.inner.Words.{MediaWord, is_or}

-- ---- `or` is none of the other keywords

or-is : (name keyword : Text) → is_keyword (codes "or") name ≡ true
    → bytes_eq (codes "or") (str_to_ascii_lowercase keyword) ≡ false → is_keyword keyword name ≡ false
or-is name keyword e n =
    let decides = bytes_eq-Decides (str_to_ascii_lowercase name) (codes "or") in
    subst (λ x. bytes_eq x (str_to_ascii_lowercase keyword) ≡ false) (sym (decides.0 e)) n

-- ---- with an `or`

more-or : (ws : List MediaWord) → list_any is_or ws ≡ true → more_parts (codes "and") ws ≡ None
more-or [] e = absurd (true≢false (sym e))
more-or (part c ∷ ws) e = refl
more-or (other_word ∷ ws) e = refl
more-or (ident name ∷ []) e = refl
more-or (ident name ∷ ident other ∷ ws) e = refl
more-or (ident name ∷ other_word ∷ ws) e = refl
more-or (ident name ∷ part c ∷ ws) e = elim (cases_Bool (is_keyword (codes "or") name)) [
  | inl t ↦ rw (or-is name (codes "and") t refl) refl
  | inr f ↦ elim (cases_Bool (is_keyword (codes "and") name)) [
    | inl u ↦ rw (u, more-or ws (subst (λ b. b || list_any is_or ws ≡ true) f e)) refl
    | inr g ↦ rw g refl
  ]
]

-- no condition without `or` has one
pub with-or : (ws : List MediaWord) → list_any is_or ws ≡ true → condition_without_or ws ≡ None
with-or [] e = refl
with-or (part c ∷ ws) e = rw (more-or ws e) refl
with-or (other_word ∷ ws) e = refl
with-or (ident name ∷ []) e = refl
with-or (ident name ∷ ident other ∷ ws) e = refl
with-or (ident name ∷ other_word ∷ ws) e = refl
with-or (ident name ∷ part c ∷ w ∷ ws) e = refl
with-or (ident name ∷ part c ∷ []) e = elim (cases_Bool (is_keyword (codes "or") name)) [
  | inl t ↦ rw (or-is name (codes "not") t refl) refl
  | inr f ↦ absurd (true≢false (sym (subst (λ b. b || false ≡ true) f e)))
]

-- ---- without an `or`

no-more : (name : Text) (ws : List MediaWord) → is_keyword (codes "or") name ≡ false
    → more_parts (codes "or") (ident name ∷ ws) ≡ None
no-more name [] f = refl
no-more name (ident other ∷ ws) f = refl
no-more name (other_word ∷ ws) f = refl
no-more name (part c ∷ ws) f = rw f refl

or-none : (o : Option (ConditionTree SizeFeature)) → option_or o None ≡ o
or-none None = refl
or-none (Some c) = refl

first-false : (a b : Bool) → (a || b) ≡ false → a ≡ false
first-false true b e = e
first-false false b e = refl

-- what has no `or` is the same condition without one
pub without-or : (ws : List MediaWord) → list_any is_or ws ≡ false
    → condition_of_words ws ≡ condition_without_or ws
without-or [] e = refl
without-or (ident name ∷ ws) e = or-none (condition_without_or (ident name ∷ ws))
without-or (other_word ∷ ws) e = or-none (condition_without_or (other_word ∷ ws))
without-or (part c ∷ []) e = refl
without-or (part c ∷ part d ∷ ws) e = refl
without-or (part c ∷ other_word ∷ ws) e = refl
without-or (part c ∷ ident name ∷ ws) e =
    let f : is_keyword (codes "or") name ≡ false =
    first-false (is_keyword (codes "or") name) (list_any is_or ws) e in
    ap (λ o. option_or (condition_without_or (part c ∷ ident name ∷ ws)) (option_map (joined_by any_of c) o))
    (no-more name ws f)
    ∙ or-none (condition_without_or (part c ∷ ident name ∷ ws))
