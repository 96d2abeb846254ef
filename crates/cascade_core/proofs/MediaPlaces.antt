-- The media queries up to each condition of a sheet, one condition after another.
use Rattle.std.proofs.Common.{◌≡◌, ◌∙◌, ap, ap₂, sym, refl, ℕ, ◌+◌, ◌<◌, length, take, get_or, List, [], ◌∷◌, ◌++◌, map, Some, None}
use Rattle.std.specs.Prelude.{Option}
use Rattle.std.proofs.Math.ListN.{get_or-map}
use Rattle.std.proofs.lemmas.List.{map-append, take_more}
use Rattle.std.proofs.lemmas.List.Elements.{filter_map-append}
use Rattle.std.proofs.lemmas.List.Sums.{fold_push}
use Rattle.rules_model.specs.Rules as rules
use Rattle.css_rules.specs.Views.{condition_lists, condition_view, conditions_at, with_condition}
use Rattle.css_rules.specs.declared.sheet.Condition.{Condition}
use Rattle.cascade_model.specs.Books.{media_among, queries_asked}
use Rattle.cascade_core.specs.Views.{media_view}
use Rattle.cascade_core.specs.declared.media.MediaBlock.{MediaBlock}
use Rattle.cascade_core.specs.inner.Media.{media_at}

-- those of the conditions in a place
pub among-at : (lists : List (List rules.Condition)) (place : Option ℕ)
    → media_at (map media_among lists) place ≡ media_among (conditions_at lists place)
among-at lists None = refl
among-at lists (Some place) = get_or-map media_among lists place []

among-both : (cs ds : List rules.Condition) → media_among (cs ++ ds) ≡ media_among cs ++ media_among ds
among-both cs ds = filter_map-append (λ c. queries_asked c.at_rule c.prelude) cs ds

among-more : (lists : List (List rules.Condition)) (c : Condition)
    → map media_among (with_condition lists c)
    ≡ map media_among lists
    ++ (media_at (map media_among lists) c.around ++ media_among (condition_view c ∷ [])) ∷ []
among-more lists c =
    map-append media_among lists ((conditions_at lists c.around ++ (condition_view c ∷ [])) ∷ [])
    ∙ ap (λ m. map media_among lists ++ m ∷ [])
    (among-both (conditions_at lists c.around) (condition_view c ∷ [])
    ∙ ap (λ m. m ++ media_among (condition_view c ∷ [])) (sym (among-at lists c.around)))

-- up to one condition more
pub place-more : (conditions : List Condition) (i : ℕ) (c : Condition) (places new : List (List MediaBlock))
    (outside inside : List MediaBlock) → i < length conditions → c ≡ get_or conditions i c
    → map media_view places ≡ map media_among (condition_lists (take i conditions))
    → media_view outside ≡ media_at (map media_view places) c.around
    → media_view inside ≡ media_view outside ++ media_among (condition_view c ∷ [])
    → new ≡ places ++ inside ∷ []
    → map media_view new ≡ map media_among (condition_lists (take (i + 1) conditions))
place-more conditions i c places new outside inside within is so-far out in-it pushed =
    let lists : List (List rules.Condition) = condition_lists (take i conditions) in
    let taken : take (i + 1) conditions ≡ take i conditions ++ c ∷ [] =
    take_more conditions i c within ∙ ap (λ d. take i conditions ++ d ∷ []) (sym is) in
    let after : condition_lists (take (i + 1) conditions) ≡ with_condition lists c =
    ap condition_lists taken ∙ fold_push with_condition [] (take i conditions) c in
    let here : media_view inside
    ≡ media_at (map media_among lists) c.around ++ media_among (condition_view c ∷ []) =
    in-it ∙ ap (λ m. m ++ media_among (condition_view c ∷ []))
    (out ∙ ap (λ m. media_at m c.around) so-far) in
    ap (map media_view) pushed
    ∙ (map-append media_view places (inside ∷ [])
    ∙ (ap₂ (λ m n. m ++ n ∷ []) so-far here
    ∙ (sym (among-more lists c) ∙ ap (map media_among) (sym after))))
