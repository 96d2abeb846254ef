-- The values of elements of which nothing is declared but `display`.
use Rattle.std.proofs.Common.{◌≡◌, ◌∙◌, ap₂, List, ◌++◌, map, take, drop}
use Rattle.std.proofs.lemmas.List.{map-append}
use Rattle.value_model.specs.declared.keyword.Keyword.{Keyword}
use Rattle.value_model.specs.declared.keyword.Keyword.TheVariants.{Block, Inline}
use Rattle.value_model.specs.Properties.{properties}
use Rattle.prop_table.specs.Styles.{style_view}
use Rattle.prop_table.specs.Views.{final_view}
use Rattle.prop_table.specs.declared.final_value.Final.{Final}
use Rattle.cascade_core.specs.Defaults.{HasDefaults, default_value}

joined : (display : Keyword) (boxes borders rest : List Final)
    → style_view boxes ≡ map (default_value display) (take 15 properties)
    → style_view borders ≡ map (default_value display) (take 12 (drop 15 properties))
    → style_view rest ≡ map (default_value display) (drop 27 properties)
    → HasDefaults display (boxes ++ (borders ++ rest))
joined display boxes borders rest a b c =
    map-append final_view boxes (borders ++ rest)
    ∙ ap₂ (λ x y. x ++ y) a (map-append final_view borders rest ∙ ap₂ (λ x y. x ++ y) b c)

-- `display` is among the boxes
pub inline_joined : (boxes borders rest : List Final)
    → style_view boxes ≡ map (default_value Inline) (take 15 properties)
    → style_view borders ≡ map (default_value Block) (take 12 (drop 15 properties))
    → style_view rest ≡ map (default_value Block) (drop 27 properties)
    → HasDefaults Inline (boxes ++ (borders ++ rest))
inline_joined boxes borders rest a b c = joined Inline boxes borders rest a b c

pub block_joined : (boxes borders rest : List Final)
    → style_view boxes ≡ map (default_value Block) (take 15 properties)
    → style_view borders ≡ map (default_value Block) (take 12 (drop 15 properties))
    → style_view rest ≡ map (default_value Block) (drop 27 properties)
    → HasDefaults Block (boxes ++ (borders ++ rest))
block_joined boxes borders rest a b c = joined Block boxes borders rest a b c
