-- Values of parts, one by one.
use Rattle.std.proofs.Common.{◌≡◌, ◌∙◌, ap, sym, refl, ℕ, ◌<◌, length, map, get_or, List, Some}
use Rattle.std.specs.Prelude.{option_map, unwrap_or}
use Rattle.std.specs.List.{slice_get}
use Rattle.std.proofs.lemmas.List.{length-map}
use Rattle.std.proofs.lemmas.Option.{slice_get_read, slice_get-map}
use Rattle.value_model.specs.declared.prop.Prop.{Prop}
use Rattle.cascade_model.specs.StyleEquation.{Given, final_value}
use Rattle.prop_table.specs.Styles.{style_view}
use Rattle.prop_table.specs.Views.{final_view}
use Rattle.prop_table.specs.declared.final_value.Final.{Final}

-- there are as many values as properties
pub count_of : (g : Given) (part : List Final) (props : List Prop)
    → style_view part ≡ map (final_value g) props → length part ≡ length props
count_of g part props are =
    sym (length-map part final_view) ∙ (ap length are ∙ length-map props (final_value g))

-- what is seen of one value
value-seen : (part : List Final) (i : ℕ) (v : Final) → i < length part → v ≡ get_or part i v
    → slice_get (style_view part) i ≡ Some (final_view v)
value-seen part i v within is =
    slice_get-map final_view part i
    ∙ ap (option_map final_view) (slice_get_read part (length part) i v refl within is)

-- the value of one property
value-of : (g : Given) (props : List Prop) (i : ℕ) (p : Prop) → i < length props → p ≡ get_or props i p
    → slice_get (map (final_value g) props) i ≡ Some (final_value g p)
value-of g props i p within is =
    slice_get-map (final_value g) props i
    ∙ ap (option_map (final_value g)) (slice_get_read props (length props) i p refl within is)

-- where a part has the values, each value is that of its property
pub value-there : (g : Given) (part : List Final) (props : List Prop) (i : ℕ) (v : Final) (p : Prop)
    → i < length part → i < length props → v ≡ get_or part i v → p ≡ get_or props i p
    → style_view part ≡ map (final_value g) props → final_view v ≡ final_value g p
value-there g part props i v p in-part in-props v-is p-is are =
    ap (λ o. unwrap_or o (final_view v))
    (sym (value-seen part i v in-part v-is)
    ∙ (ap (λ l. slice_get l i) are ∙ value-of g props i p in-props p-is))
