-- What declared values compute to (CSS Cascade 4, section 4.4; the modules of each property).
use Rattle.std.specs.Prelude.{ℤ, pos}
use Rattle.std.specs.Int.{int_min, int_max}
use Rattle.value_model.specs.declared.keyword.Keyword.{Keyword}
use Rattle.value_model.specs.declared.keyword.Keyword.TheVariants.{Thin, Medium, Thick, Bold, Start, End, Left, Right}
use Rattle.value_model.specs.declared.length_unit.Bases.{Bases}
use Rattle.value_model.specs.declared.prop.Prop.{Prop}
use Rattle.value_model.specs.declared.prop.Prop.TheVariants.{MinWidth, MinHeight, BorderTopWidth, BorderRightWidth, BorderBottomWidth, BorderLeftWidth, FontSize, LineHeight, TextAlign, FontWeight}
use Rattle.value_model.specs.Calculations.{Calculation, leaf, in_units, computed_length, units_from_zero}
use Rattle.value_model.specs.Lengths.{Length}
use Rattle.value_model.specs.Properties.{property, pixels}
use Rattle.value_model.specs.Values.{Value, wide_keyword, keyword_value, length_value, number_value, integer_value, color_value, containment_value, names_value, Final, keyword, length, number, alpha, integer, color, containment, names}

-- ---- keywords

-- the width of a border (CSS Backgrounds 3, section 3.3)
abbrev pub border_width : Keyword → Final
border_width Thin = pixels 1
border_width Medium = pixels 3
border_width Thick = pixels 5
border_width k = keyword k

-- where text runs from left to right (CSS Text 3, section 7.1)
abbrev pub alignment : Keyword → Final
alignment Start = keyword Left
alignment End = keyword Right
alignment k = keyword k

-- CSS Fonts 4, section 2.2
abbrev pub weight : Keyword → Final
weight Bold = integer (pos 700)
weight k = integer (pos 400)

abbrev pub computed_keyword : Prop → Keyword → Final
computed_keyword MinWidth k = pixels 0
computed_keyword MinHeight k = pixels 0
computed_keyword BorderTopWidth k = border_width k
computed_keyword BorderRightWidth k = border_width k
computed_keyword BorderBottomWidth k = border_width k
computed_keyword BorderLeftWidth k = border_width k
computed_keyword FontSize k = pixels 16
computed_keyword TextAlign k = alignment k
computed_keyword FontWeight k = weight k
computed_keyword p k = keyword k

-- ---- lengths

-- where percentages refer to this base: in units, and not below 0
abbrev pub absolute_length : Bases → ℤ → Calculation Length → Final
absolute_length b base l = length (leaf (in_units (units_from_zero b base l)))

-- a percentage of a font size is one of the parent's (CSS Fonts 4, section 2.5), and one of a line height
-- is one of the element's own font size (CSS 2.1, section 10.8.1); a width of a border has none. What a
-- calculation gives below 0 is 0 for these
abbrev pub computed_length_of : Prop → Bases → ℤ → Calculation Length → Final
computed_length_of FontSize b parent_font l = absolute_length b parent_font l
computed_length_of LineHeight b parent_font l = absolute_length b b.em l
computed_length_of BorderTopWidth b parent_font l = absolute_length b (pos 0) l
computed_length_of BorderRightWidth b parent_font l = absolute_length b (pos 0) l
computed_length_of BorderBottomWidth b parent_font l = absolute_length b (pos 0) l
computed_length_of BorderLeftWidth b parent_font l = absolute_length b (pos 0) l
computed_length_of p b parent_font l = length (computed_length b l)

-- ---- numbers

-- a line height is a number; an opacity is one from 0 to 1 (CSS Color 4, section 4.2)
abbrev pub computed_number : Prop → ℤ → Final
computed_number LineHeight n = number n
computed_number p n = alpha (int_max (pos 0) (int_min (pos 1000000) n))

-- ---- all values

-- the computed value of a property, where lengths refer to these bases and the parent has this font
-- size. What a CSS-wide keyword or `currentcolor` for `color` stands for is defaulting, and not said here
abbrev pub computed : Prop → Value → Bases → ℤ → Final
computed p (wide_keyword w) b parent_font = (property p).initial
computed p (keyword_value k) b parent_font = computed_keyword p k
computed p (length_value l) b parent_font = computed_length_of p b parent_font l
computed p (number_value n) b parent_font = computed_number p n
computed p (integer_value n) b parent_font = integer n
computed p (color_value c) b parent_font = color c
computed p (containment_value c) b parent_font = containment c
computed p (names_value ns) b parent_font = names ns
