-- Values of styles, one by one.
use Rattle.std.proofs.Common.{◌≡◌, ◌∙◌, ap, ap₂, sym, refl, ℕ, ◌<◌, ◌++◌, length, take, drop, get_or, List, Some}
use Rattle.std.specs.Prelude.{option_map, unwrap_or}
use Rattle.std.specs.List.{slice_get}
use Rattle.std.proofs.lemmas.Option.{slice_get_read, slice_get-map}
use Rattle.prop_table.specs.declared.final_value.Final.{Final}
use Rattle.std.proofs.lemmas.List.{take-map, drop-map, map-append, take-append-drop, drop-drop}
use Rattle.prop_table.specs.Styles.{boxes_of, borders_of, rest_of, style_view}
use Rattle.prop_table.specs.Views.{final_view}

-- what is seen of one value
value-seen : (xs : List Final) (i : ℕ) (x : Final) → i < length xs → x ≡ get_or xs i x
    → slice_get (style_view xs) i ≡ Some (final_view x)
value-seen xs i x within is =
    slice_get-map final_view xs i ∙ ap (option_map final_view) (slice_get_read xs (length xs) i x refl within is)

-- where lists are seen as one, each value is
pub value-same : (xs ys : List Final) (i : ℕ) (x y : Final) → i < length xs → i < length ys
    → x ≡ get_or xs i x → y ≡ get_or ys i y → style_view xs ≡ style_view ys
    → final_view x ≡ final_view y
value-same xs ys i x y in-xs in-ys x-is y-is same =
    ap (λ o. unwrap_or o (final_view x))
    (sym (value-seen xs i x in-xs x-is) ∙ (ap (λ l. slice_get l i) same ∙ value-seen ys i y in-ys y-is))

-- ---- parts

pub same_boxes : (s t : List Final) → style_view s ≡ style_view t
    → style_view (boxes_of s) ≡ style_view (boxes_of t)
same_boxes s t same = sym (take-map final_view 15 s) ∙ (ap (take 15) same ∙ take-map final_view 15 t)

borders-seen : (s : List Final) → take 12 (drop 15 (style_view s)) ≡ style_view (borders_of s)
borders-seen s = ap (take 12) (drop-map final_view 15 s) ∙ take-map final_view 12 (drop 15 s)

pub same_borders : (s t : List Final) → style_view s ≡ style_view t
    → style_view (borders_of s) ≡ style_view (borders_of t)
same_borders s t same =
    sym (borders-seen s) ∙ (ap (λ l. take 12 (drop 15 l)) same ∙ borders-seen t)

pub same_rest : (s t : List Final) → style_view s ≡ style_view t
    → style_view (rest_of s) ≡ style_view (rest_of t)
same_rest s t same = sym (drop-map final_view 27 s) ∙ (ap (drop 27) same ∙ drop-map final_view 27 t)

joined : (s : List Final) → boxes_of s ++ (borders_of s ++ rest_of s) ≡ s
joined s =
    ap (λ l. boxes_of s ++ (borders_of s ++ l)) (sym (drop-drop 12 15 s))
    ∙ (ap (λ l. boxes_of s ++ l) (take-append-drop 12 (drop 15 s)) ∙ take-append-drop 15 s)

parts-seen : (s : List Final) → style_view s
    ≡ style_view (boxes_of s) ++ (style_view (borders_of s) ++ style_view (rest_of s))
parts-seen s =
    ap style_view (sym (joined s))
    ∙ (map-append final_view (boxes_of s) (borders_of s ++ rest_of s)
    ∙ ap (λ l. style_view (boxes_of s) ++ l) (map-append final_view (borders_of s) (rest_of s)))

pub same_parts : (s t : List Final) → style_view (boxes_of s) ≡ style_view (boxes_of t)
    → style_view (borders_of s) ≡ style_view (borders_of t)
    → style_view (rest_of s) ≡ style_view (rest_of t) → style_view s ≡ style_view t
same_parts s t boxes borders rest =
    parts-seen s
    ∙ (ap₂ (λ a b. a ++ b) boxes (ap₂ (λ a b. a ++ b) borders rest) ∙ sym (parts-seen t))
