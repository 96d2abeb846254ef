-- What is kept of declarations, one after another.
use Rattle.std.proofs.Common.{◌≡◌, ◌∙◌, ap, ap₂, sym, ℕ, ◌+◌, ◌<◌, length, drop, get_or, List, [], ◌∷◌, ◌++◌, map, Bool}
use Rattle.std.proofs.Math.Numerals.{add-one}
use Rattle.std.proofs.Math.Seq.{drop-cons}
use Rattle.std.proofs.lemmas.List.{append_assoc, map-append}
use Rattle.cascade_core.specs.Views.{kept_view, all_kept_view}
use Rattle.cascade_core.specs.declared.kept.Kept.{Kept}
use Rattle.cascade_model.specs.Kept as model
use Rattle.css_rules.specs.Views.{declaration_view, declarations_view}
use Rattle.css_rules.specs.declared.declaration.Declaration.{Declaration}
use Rattle.prop_table.specs.Views.{longhand_view, pairs_view}
use Rattle.prop_table.specs.declared.longhand.Longhand.{Longhand}

-- a list from one place on
pub from-here : {X : Type 0} (xs : List X) (i : ℕ) (x : X) → i < length xs → x ≡ get_or xs i x
    → drop i xs ≡ x ∷ drop (i + 1) xs
from-here xs i x within is =
    drop-cons xs i x within ∙ ap₂ (λ y ys. y ∷ ys) (sym is) (ap (λ k. drop k xs) (sym (add-one i)))

-- one longhand more was kept
pub longhand-kept : (important : Bool) (kept : List Kept) (k : Kept) (longhands : List Longhand) (i : ℕ)
    (l : Longhand) → i < length longhands → l ≡ get_or longhands i l
    → kept_view k ≡ model.kept_longhand important (longhand_view l)
    → all_kept_view kept ++ map (model.kept_longhand important) (pairs_view (drop i longhands))
    ≡ all_kept_view (kept ++ k ∷ []) ++ map (model.kept_longhand important) (pairs_view (drop (i + 1) longhands))
longhand-kept important kept k longhands i l within is seen =
    let rest : List model.Kept = map (model.kept_longhand important) (pairs_view (drop (i + 1) longhands)) in
    ap (λ ls. all_kept_view kept ++ map (model.kept_longhand important) (pairs_view ls)) (from-here longhands i l within is)
    ∙ (ap (λ x. all_kept_view kept ++ (x ∷ rest)) (sym seen)
    ∙ (sym (append_assoc (all_kept_view kept) (kept_view k ∷ []) rest)
    ∙ ap (λ ks. ks ++ rest) (sym (map-append kept_view kept (k ∷ [])))))

-- one declaration more was
pub declaration-kept : (kept kept' : List Kept) (declarations : List Declaration) (i : ℕ) (d : Declaration)
    → i < length declarations → d ≡ get_or declarations i d
    → all_kept_view kept' ≡ all_kept_view kept ++ model.kept_of (declaration_view d)
    → all_kept_view kept ++ model.kept_declarations (declarations_view (drop i declarations))
    ≡ all_kept_view kept' ++ model.kept_declarations (declarations_view (drop (i + 1) declarations))
declaration-kept kept kept' declarations i d within is seen =
    let rest : List model.Kept = model.kept_declarations (declarations_view (drop (i + 1) declarations)) in
    ap (λ ds. all_kept_view kept ++ model.kept_declarations (declarations_view ds)) (from-here declarations i d within is)
    ∙ (sym (append_assoc (all_kept_view kept) (model.kept_of (declaration_view d)) rest)
    ∙ ap (λ ks. ks ++ rest) (sym seen))
