-- Words of the examples: groups of properties.
use Rattle.std.specs.Prelude.{ℕ, ℤ, pos, negsuc, List, [], ◌∷◌, ◌++◌, filter}
use Rattle.value_model.specs.declared.color.Color.TheVariants.{Rgba as AnRgba}
use Rattle.value_model.specs.declared.length_unit.Bases.{Bases}
use Rattle.value_model.specs.declared.length_unit.LengthBase.{LengthBase}
use Rattle.value_model.specs.declared.length_unit.LengthBase.TheVariants.{Em, Pixel}
use Rattle.value_model.specs.declared.prop.Prop.{Prop}
use Rattle.value_model.specs.declared.prop.Prop.TheVariants.{Width, Height, MinWidth, MinHeight, MaxWidth, MaxHeight, MarginTop, MarginRight, MarginBottom, MarginLeft, PaddingTop, PaddingRight, PaddingBottom, PaddingLeft, BorderTopWidth, BorderRightWidth, BorderBottomWidth, BorderLeftWidth, BorderTopStyle, BorderRightStyle, BorderBottomStyle, BorderLeftStyle, BorderTopColor, BorderRightColor, BorderBottomColor, BorderLeftColor, FontSize, LineHeight, Color, BackgroundColor}
use Rattle.value_model.specs.Calculations.{Calculation, ComputedLength, leaf, scaled, in_units, in_pixels, in_percent}
use Rattle.value_model.specs.Colors.{rgba}
use Rattle.value_model.specs.Lengths.{Length, dimension, unit}
use Rattle.value_model.specs.Properties.{properties}
use Rattle.value_model.specs.Values.{Value, length_value, Final, length, color}
use Rattle.value_laws.specs.ComputedForms.{is_computed, is_inherited_color}

-- the properties that have this computed value
abbrev pub properties_with : Final → List Prop
properties_with v = filter (λ p. is_computed p v) properties

-- the properties for which this value is not computed
abbrev pub not_computed : Value → List Prop
not_computed v = filter (λ p. is_inherited_color p v) properties

-- ---- groups of properties

abbrev pub sizes : List Prop
sizes = Width ∷ Height ∷ MinWidth ∷ MinHeight ∷ MaxWidth ∷ MaxHeight ∷ []

abbrev pub margins : List Prop
margins = MarginTop ∷ MarginRight ∷ MarginBottom ∷ MarginLeft ∷ []

abbrev pub paddings : List Prop
paddings = PaddingTop ∷ PaddingRight ∷ PaddingBottom ∷ PaddingLeft ∷ []

abbrev pub border_widths : List Prop
border_widths = BorderTopWidth ∷ BorderRightWidth ∷ BorderBottomWidth ∷ BorderLeftWidth ∷ []

abbrev pub border_styles : List Prop
border_styles = BorderTopStyle ∷ BorderRightStyle ∷ BorderBottomStyle ∷ BorderLeftStyle ∷ []

abbrev pub border_colors : List Prop
border_colors = BorderTopColor ∷ BorderRightColor ∷ BorderBottomColor ∷ BorderLeftColor ∷ []

abbrev pub with_percentages : List Prop
with_percentages = sizes ++ (margins ++ paddings)

abbrev pub with_lengths : List Prop
with_lengths = with_percentages ++ (border_widths ++ (FontSize ∷ LineHeight ∷ []))

abbrev pub with_colors : List Prop
with_colors = border_colors ++ (Color ∷ BackgroundColor ∷ [])

-- ---- values

abbrev pub units : ℤ → Final
units n = length (leaf (in_units n))

abbrev pub percent : ℤ → Final
percent millionths = length (leaf (in_percent millionths))

abbrev pub rgba_color : ℕ → ℕ → ℕ → ℕ → Final
rgba_color red green blue alpha = color (AnRgba (rgba red green blue alpha))

abbrev pub a_pixel : ComputedLength
a_pixel = leaf (in_pixels (pos 1000000))

abbrev pub ten_percent : ComputedLength
ten_percent = leaf (in_percent (pos 10000000))

-- one of a unit of this base
abbrev pub one_of : LengthBase → Calculation Length
one_of base = leaf (dimension (pos 1000000) (unit base 1 1))

abbrev pub an_em : Value
an_em = length_value (one_of Em)

-- `calc(1px * -1)`
abbrev pub below_zero : Value
below_zero = length_value (scaled (one_of Pixel) (negsuc 999999))

-- bases that are all 0
abbrev pub bases_of_zero : Bases
bases_of_zero = record { em = pos 0; rem = pos 0; vw = pos 0; vh = pos 0; cqw = pos 0; cqh = pos 0 }

-- bases below 0
abbrev pub negative_bases : Bases
negative_bases = record {
  em = negsuc 63;
  rem = negsuc 63;
  vw = negsuc 6399;
  vh = negsuc 6399;
  cqw = negsuc 6399;
  cqh = negsuc 6399;
}
