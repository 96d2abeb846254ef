-- A style of its parts.
use Rattle.std.proofs.Common.{◌≡◌, ◌∙◌, ap₂, List, ◌++◌, map, take, drop}
use Rattle.std.proofs.lemmas.List.{map-append}
use Rattle.value_model.specs.Properties.{properties}
use Rattle.cascade_model.specs.StyleEquation.{Given, final_value, style_of}
use Rattle.prop_table.specs.Styles.{style_view}
use Rattle.prop_table.specs.Views.{final_view}
use Rattle.prop_table.specs.declared.final_value.Final.{Final}

pub parts_joined : (g : Given) (boxes borders rest : List Final)
    → style_view boxes ≡ map (final_value g) (take 15 properties)
    → style_view borders ≡ map (final_value g) (take 12 (drop 15 properties))
    → style_view rest ≡ map (final_value g) (drop 27 properties)
    → style_view (boxes ++ (borders ++ rest)) ≡ style_of g
parts_joined g boxes borders rest a b c =
    map-append final_view boxes (borders ++ rest)
    ∙ ap₂ (λ x y. x ++ y) a (map-append final_view borders rest ∙ ap₂ (λ x y. x ++ y) b c)
