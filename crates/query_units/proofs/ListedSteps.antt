-- One calculation more of a list.
use Rattle.std.proofs.Common.{◌≡◌, ◌∙◌, ap, sym, ℕ, ◌+◌, suc, ◌<◌, ℤ, List, [], ◌∷◌, ◌++◌, length, drop, drop-cons, get_or, add-one, map}
use Rattle.std.specs.List.{fold}
use Rattle.value_model.specs.Calculations.{Calculation, Calculations, calculation, ComputedLeaf, values_by, value_by, with_leaves, all_with_leaves}
use Rattle.value_model.specs.Lengths as lengths
use Rattle.query_units.specs.Views.{computed_view, length_view, lengths_view, listed}
use Rattle.query_units.specs.declared.computed.Computed.{Computed}
use Rattle.query_units.specs.declared.length.Length.{Length as Written}
use Rattle.query_units.specs.inner.Fronts.{in_front}
use Rattle.query_units.proofs.FrontCalculations.{in_front_push}

-- the values, from one on
pub folded_step : {X L : Type 0} (view : X → Calculation L) (f : L → ℤ) (op : ℤ → ℤ → ℤ) (items : List X) (i : ℕ)
    (item : X) (value next total : ℤ) → i < length items → item ≡ get_or items i item
    → next ≡ op value (value_by f (view item))
    → fold op value (values_by f (listed (map view (drop i items)))) ≡ total
    → fold op next (values_by f (listed (map view (drop (i + 1) items)))) ≡ total
folded_step view f op items i item value next total h is e inv =
    let cut : drop i items ≡ item ∷ drop (i + 1) items =
    rw add-one (drop-cons items i item h ∙ ap (λ x. x ∷ drop (suc i) items) (sym is)) in
    ap (λ v. fold op v (values_by f (listed (map view (drop (i + 1) items))))) e
    ∙ (sym (ap (λ xs. fold op value (values_by f (listed (map view xs)))) cut) ∙ inv)

-- the computed lengths, from one on
pub computed_step : (f : lengths.Length → ComputedLeaf) (items : List Written) (i : ℕ) (item : Written) (front : List Computed)
    (c : Computed) (total : Calculations ComputedLeaf)
    → i < length items → item ≡ get_or items i item
    → computed_view c ≡ with_leaves f (length_view item)
    → in_front (map computed_view front) (all_with_leaves f (lengths_view (drop i items))) ≡ total
    → in_front (map computed_view (front ++ c ∷ [])) (all_with_leaves f (lengths_view (drop (i + 1) items))) ≡ total
computed_step f items i item front c total h is e inv =
    let cut : drop i items ≡ item ∷ drop (i + 1) items =
    rw add-one (drop-cons items i item h ∙ ap (λ x. x ∷ drop (suc i) items) (sym is)) in
    in_front_push front c (all_with_leaves f (lengths_view (drop (i + 1) items)))
    ∙ (ap (λ d. in_front (map computed_view front) (calculation d (all_with_leaves f (lengths_view (drop (i + 1) items))))) e
    ∙ (sym (ap (λ xs. in_front (map computed_view front) (all_with_leaves f (lengths_view xs))) cut) ∙ inv))
