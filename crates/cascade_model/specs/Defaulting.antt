-- What a property gets: the value that wins, or what is inherited or initial (CSS Cascade 4, sections 4.3,
-- 4.4 and 7).
use Rattle.std.specs.Prelude.{ℤ, pos, if◌then◌else◌, List, get_or, Option, Some, None, Bool, true, false}
use Rattle.value_model.specs.declared.color.Color.{Color}
use Rattle.value_model.specs.declared.color.Color.TheVariants.{CurrentColor}
use Rattle.value_model.specs.declared.keyword.Keyword.TheVariants.{Block, Inline, InlineBlock, Hidden, None as NoneKeyword}
use Rattle.value_model.specs.declared.length_unit.Bases.{Bases}
use Rattle.value_model.specs.declared.prop.Prop.{Prop}
use Rattle.value_model.specs.declared.prop.Prop.TheVariants.{Display, FontSize, Color as ColorProp, BorderTopWidth, BorderRightWidth, BorderBottomWidth, BorderLeftWidth, BorderTopStyle, BorderRightStyle, BorderBottomStyle, BorderLeftStyle}
use Rattle.value_model.specs.declared.wide_keyword.WideKeyword.{WideKeyword}
use Rattle.value_model.specs.declared.wide_keyword.WideKeyword.TheVariants.{Inherit, Initial, Unset, Revert}
use Rattle.value_model.specs.Computing.{computed}
use Rattle.value_model.specs.Calculations.{in_units, leaf}
use Rattle.value_model.specs.Properties.{property, prop_place, is_same_prop, pixels}
use Rattle.value_model.specs.Values.{Value, wide_keyword, color_value, Final, keyword, length}

-- the computed values of all properties, in the order of the properties
abbrev pub Style : Type 0
Style = List Final

abbrev pub value_in : Style → Prop → Final
value_in style p = get_or style (prop_place p) (property p).initial

-- for each property the value that wins, and the one that wins among those of the user agent, after
-- substitution
pub record Winners : Type 0 where
  pub of_all : Prop → Option Value
  pub of_user_agent : Prop → Option Value

-- ---- defaulting (section 7)

-- what is inherited: the value of the parent, or the initial one for the root
abbrev pub inherited_value : Option Style → Prop → Final
inherited_value None p = (property p).initial
inherited_value (Some parent) p = value_in parent p

abbrev pub unset_value : Option Style → Prop → Final
unset_value parent p = if (property p).is_inherited then inherited_value parent p else (property p).initial

-- a computed value, or a declared one that is to be computed
pub data Chosen : Type 0 where
  ready : Final → Chosen
  declared : Value → Chosen

-- what a CSS-wide keyword stands for, where no other origin is left for `revert`
abbrev pub keyword_choice : Option Style → Prop → WideKeyword → Chosen
keyword_choice parent p Inherit = ready (inherited_value parent p)
keyword_choice parent p Initial = ready (property p).initial
keyword_choice parent p Unset = ready (unset_value parent p)
keyword_choice parent p Revert = ready (unset_value parent p)

-- `currentcolor` for `color` is `inherit` (CSS Color 4, section 6.4)
abbrev pub color_choice : Option Style → Prop → Color → Chosen
color_choice parent p CurrentColor =
    if is_same_prop p ColorProp then ready (inherited_value parent p) else declared (color_value CurrentColor)
color_choice parent p c = declared (color_value c)

abbrev pub choice_of_value : Option Style → Prop → Value → Chosen
choice_of_value parent p (wide_keyword w) = keyword_choice parent p w
choice_of_value parent p (color_value c) = color_choice parent p c
choice_of_value parent p v = declared v

-- what a value that wins gives; a property without one is unset
abbrev pub choice_of : Option Style → Prop → Option Value → Chosen
choice_of parent p None = ready (unset_value parent p)
choice_of parent p (Some v) = choice_of_value parent p v

abbrev pub is_revert : Option Value → Bool
is_revert (Some (wide_keyword Revert)) = true
is_revert v = false

-- the choice for a property: by the value that wins, or for `revert` by the one that wins among those of
-- the user agent
abbrev pub choice : Option Style → Winners → Prop → Chosen
choice parent w p =
    if is_revert (w.of_all p) then choice_of parent p (w.of_user_agent p) else choice_of parent p (w.of_all p)

-- ---- computed values (section 4.4)

abbrev pub computed_choice : Bases → ℤ → Prop → Chosen → Final
computed_choice b parent_font p (ready v) = v
computed_choice b parent_font p (declared v) = computed p v b parent_font

-- a property of an element: what lengths refer to, and the font size of the parent
abbrev pub value_of_property : Winners → Option Style → Bases → ℤ → Prop → Final
value_of_property w parent b parent_font p = computed_choice b parent_font p (choice parent w p)

-- ---- the rest of the style

-- the style of the border whose width this is
abbrev pub style_of_border : Prop → Option Prop
style_of_border BorderTopWidth = Some BorderTopStyle
style_of_border BorderRightWidth = Some BorderRightStyle
style_of_border BorderBottomWidth = Some BorderBottomStyle
style_of_border BorderLeftWidth = Some BorderLeftStyle
style_of_border p = None

-- a border of these styles has no width (CSS Backgrounds 3, section 3.3)
abbrev pub is_no_border : Final → Bool
is_no_border (keyword NoneKeyword) = true
is_no_border (keyword Hidden) = true
is_no_border style = false

abbrev pub width_beside : Option Final → Final → Final
width_beside None width = width
width_beside (Some style) width = if is_no_border style then pixels 0 else width

-- the root is a block (CSS 2.1, section 9.7)
abbrev pub blockified : Final → Final
blockified (keyword Inline) = keyword Block
blockified (keyword InlineBlock) = keyword Block
blockified display = display

abbrev pub root_value : Prop → Final → Final
root_value Display v = blockified v
root_value p v = v

-- what a length in units is
abbrev pub units_of_final : Final → ℤ
units_of_final (length (leaf (in_units n))) = n
units_of_final v = pos 0

-- the font size of a style, in units
abbrev pub font_size_in : Style → ℤ
font_size_in style = units_of_final (value_in style FontSize)
