-- The same values for the borders of some sides.
use Rattle.std.proofs.Common.{◌≡◌, ap, refl, List, [], ◌∷◌, unwrap_or}
use Rattle.value_model.specs.declared.color.Color.TheVariants.{CurrentColor}
use Rattle.value_model.specs.declared.keyword.Keyword.TheVariants.{None as NoneKeyword, Medium}
use Rattle.value_model.specs.Shorthands.{Border, BorderParts, Longhand, border_values}
use Rattle.value_model.specs.Values.{keyword_value, color_value}
use Rattle.prop_table.specs.inner.BorderViews.{complete, side_values}

pub side_values-complete : (sides : List Border) (parts : BorderParts) → side_values sides (complete parts) ≡ border_values sides parts
side_values-complete [] parts = refl
side_values-complete (b ∷ sides) parts =
    ap (λ (more : List Longhand). (b.width, unwrap_or parts.width (keyword_value Medium))
    ∷ (b.style, unwrap_or parts.style (keyword_value NoneKeyword))
    ∷ (b.color, unwrap_or parts.color (color_value CurrentColor)) ∷ more) (side_values-complete sides parts)
