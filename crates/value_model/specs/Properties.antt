-- The properties: their names, the forms of their values, their initial values, and whether they are
-- inherited (CSS Cascade 4, sections 7.1 and 7.2; the modules of each property).
use Rattle.std.specs.Prelude.{ℕ, ◌*ℤ◌, ◌==◌, pos, List, [], ◌∷◌, codes, Bool, true, false}
use Rattle.units64.specs.declared.constants.TheConstants.{UNITS_PER_PIXEL}
use Rattle.css_model.specs.Classes.{Text}
use Rattle.value_model.specs.declared.color.Color.TheVariants.{CurrentColor, Rgba as AnRgba}
use Rattle.value_model.specs.declared.keyword.Keyword.{Keyword}
use Rattle.value_model.specs.declared.keyword.Keyword.TheVariants.{Auto, None as NoneKeyword, Block, Inline, InlineBlock, FlowRoot, Thin, Medium, Thick, Hidden, Dotted, Dashed, Solid, Double, Groove, Ridge, Inset, Outset, ContentBox, BorderBox, Normal, Left, Right, Center, Start, End, Nowrap, Visible, Scroll, InlineSize, Size, Collapse, Italic, Oblique, Bold, Underline, Overline, LineThrough}
use Rattle.value_model.specs.declared.prop.Prop.{Prop}
use Rattle.value_model.specs.declared.prop.Prop.TheVariants.{Display, Width, Height, MinWidth, MinHeight, MaxWidth, MaxHeight, MarginTop, MarginRight, MarginBottom, MarginLeft, PaddingTop, PaddingRight, PaddingBottom, PaddingLeft, BorderTopWidth, BorderRightWidth, BorderBottomWidth, BorderLeftWidth, BorderTopStyle, BorderRightStyle, BorderBottomStyle, BorderLeftStyle, BorderTopColor, BorderRightColor, BorderBottomColor, BorderLeftColor, BoxSizing, FontSize, LineHeight, Color, BackgroundColor, TextAlign, WhiteSpace, Overflow, Contain, ContainerType, ContainerName, Visibility, Opacity, FontStyle, FontWeight, ZIndex, TextDecorationLine, PointerEvents}
use Rattle.value_model.specs.Colors.{rgba}
use Rattle.value_model.specs.Forms.{Form, one_of, a_length, a_length_or_percentage, any_length_or_percentage, a_number, any_number, an_integer_between, any_integer, a_color, a_containment, container_names, nothing_contained}
use Rattle.value_model.specs.Calculations.{in_units, leaf}
use Rattle.value_model.specs.Values.{Final, keyword, length, alpha, integer, color, containment, names}

-- what there is to know of a property
pub record Property : Type 0 where
  pub name : Text
  -- a value is of one of these forms
  pub forms : List Form
  pub initial : Final
  pub is_inherited : Bool

abbrev pub inherited : Text → List Form → Final → Property
inherited name forms initial = record { name = name; forms = forms; initial = initial; is_inherited = true }

abbrev pub not_inherited : Text → List Form → Final → Property
not_inherited name forms initial =
    record { name = name; forms = forms; initial = initial; is_inherited = false }

-- a length of whole pixels
abbrev pub pixels : ℕ → Final
pixels n = length (leaf (in_units (UNITS_PER_PIXEL *ℤ pos n)))

-- the styles of a border (CSS Backgrounds 3, section 3.2)
abbrev pub line_styles : List Keyword
line_styles =
    NoneKeyword ∷ Hidden ∷ Dotted ∷ Dashed ∷ Solid ∷ Double ∷ Groove ∷ Ridge ∷ Inset ∷ Outset ∷ []

-- the table of properties
abbrev pub property : Prop → Property
property Display = not_inherited (codes "display")
    (one_of (Block ∷ Inline ∷ InlineBlock ∷ FlowRoot ∷ NoneKeyword ∷ []) ∷ []) (keyword Inline)
property Width = not_inherited (codes "width")
    (one_of (Auto ∷ []) ∷ a_length_or_percentage ∷ []) (keyword Auto)
property Height = not_inherited (codes "height")
    (one_of (Auto ∷ []) ∷ a_length_or_percentage ∷ []) (keyword Auto)
property MinWidth = not_inherited (codes "min-width")
    (one_of (Auto ∷ []) ∷ a_length_or_percentage ∷ []) (pixels 0)
property MinHeight = not_inherited (codes "min-height")
    (one_of (Auto ∷ []) ∷ a_length_or_percentage ∷ []) (pixels 0)
property MaxWidth = not_inherited (codes "max-width")
    (one_of (NoneKeyword ∷ []) ∷ a_length_or_percentage ∷ []) (keyword NoneKeyword)
property MaxHeight = not_inherited (codes "max-height")
    (one_of (NoneKeyword ∷ []) ∷ a_length_or_percentage ∷ []) (keyword NoneKeyword)
property MarginTop = not_inherited (codes "margin-top")
    (one_of (Auto ∷ []) ∷ any_length_or_percentage ∷ []) (pixels 0)
property MarginRight = not_inherited (codes "margin-right")
    (one_of (Auto ∷ []) ∷ any_length_or_percentage ∷ []) (pixels 0)
property MarginBottom = not_inherited (codes "margin-bottom")
    (one_of (Auto ∷ []) ∷ any_length_or_percentage ∷ []) (pixels 0)
property MarginLeft = not_inherited (codes "margin-left")
    (one_of (Auto ∷ []) ∷ any_length_or_percentage ∷ []) (pixels 0)
property PaddingTop = not_inherited (codes "padding-top") (a_length_or_percentage ∷ []) (pixels 0)
property PaddingRight = not_inherited (codes "padding-right")
    (a_length_or_percentage ∷ []) (pixels 0)
property PaddingBottom = not_inherited (codes "padding-bottom")
    (a_length_or_percentage ∷ []) (pixels 0)
property PaddingLeft = not_inherited (codes "padding-left") (a_length_or_percentage ∷ []) (pixels 0)
property BorderTopWidth = not_inherited (codes "border-top-width")
    (one_of (Thin ∷ Medium ∷ Thick ∷ []) ∷ a_length ∷ []) (pixels 3)
property BorderRightWidth = not_inherited (codes "border-right-width")
    (one_of (Thin ∷ Medium ∷ Thick ∷ []) ∷ a_length ∷ []) (pixels 3)
property BorderBottomWidth = not_inherited (codes "border-bottom-width")
    (one_of (Thin ∷ Medium ∷ Thick ∷ []) ∷ a_length ∷ []) (pixels 3)
property BorderLeftWidth = not_inherited (codes "border-left-width")
    (one_of (Thin ∷ Medium ∷ Thick ∷ []) ∷ a_length ∷ []) (pixels 3)
property BorderTopStyle = not_inherited (codes "border-top-style")
    (one_of line_styles ∷ []) (keyword NoneKeyword)
property BorderRightStyle = not_inherited (codes "border-right-style")
    (one_of line_styles ∷ []) (keyword NoneKeyword)
property BorderBottomStyle = not_inherited (codes "border-bottom-style")
    (one_of line_styles ∷ []) (keyword NoneKeyword)
property BorderLeftStyle = not_inherited (codes "border-left-style")
    (one_of line_styles ∷ []) (keyword NoneKeyword)
property BorderTopColor = not_inherited (codes "border-top-color")
    (a_color ∷ []) (color CurrentColor)
property BorderRightColor = not_inherited (codes "border-right-color")
    (a_color ∷ []) (color CurrentColor)
property BorderBottomColor = not_inherited (codes "border-bottom-color")
    (a_color ∷ []) (color CurrentColor)
property BorderLeftColor = not_inherited (codes "border-left-color")
    (a_color ∷ []) (color CurrentColor)
property BoxSizing = not_inherited (codes "box-sizing")
    (one_of (ContentBox ∷ BorderBox ∷ []) ∷ []) (keyword ContentBox)
property FontSize = inherited (codes "font-size")
    (one_of (Medium ∷ []) ∷ a_length_or_percentage ∷ []) (pixels 16)
property LineHeight = inherited (codes "line-height")
    (one_of (Normal ∷ []) ∷ a_number ∷ a_length_or_percentage ∷ []) (keyword Normal)
property Color = inherited (codes "color") (a_color ∷ []) (color (AnRgba (rgba 0 0 0 255)))
property BackgroundColor = not_inherited (codes "background-color")
    (a_color ∷ []) (color (AnRgba (rgba 0 0 0 0)))
property TextAlign = inherited (codes "text-align")
    (one_of (Left ∷ Right ∷ Center ∷ Start ∷ End ∷ []) ∷ []) (keyword Left)
property WhiteSpace = inherited (codes "white-space")
    (one_of (Normal ∷ Nowrap ∷ []) ∷ []) (keyword Normal)
property Overflow = not_inherited (codes "overflow")
    (one_of (Visible ∷ Hidden ∷ Scroll ∷ Auto ∷ []) ∷ []) (keyword Visible)
property Contain = not_inherited (codes "contain")
    (a_containment ∷ []) (containment nothing_contained)
property ContainerType = not_inherited (codes "container-type")
    (one_of (Normal ∷ InlineSize ∷ Size ∷ []) ∷ []) (keyword Normal)
property ContainerName = not_inherited (codes "container-name") (container_names ∷ []) (names [])
property Visibility = inherited (codes "visibility")
    (one_of (Visible ∷ Hidden ∷ Collapse ∷ []) ∷ []) (keyword Visible)
property Opacity = not_inherited (codes "opacity") (any_number ∷ []) (alpha (pos 1000000))
property FontStyle = inherited (codes "font-style")
    (one_of (Normal ∷ Italic ∷ Oblique ∷ []) ∷ []) (keyword Normal)
property FontWeight = inherited (codes "font-weight")
    (one_of (Normal ∷ Bold ∷ []) ∷ an_integer_between 1 1000 ∷ []) (integer (pos 400))
property ZIndex = not_inherited (codes "z-index")
    (one_of (Auto ∷ []) ∷ any_integer ∷ []) (keyword Auto)
property TextDecorationLine = not_inherited (codes "text-decoration-line")
    (one_of (NoneKeyword ∷ Underline ∷ Overline ∷ LineThrough ∷ []) ∷ []) (keyword NoneKeyword)
property PointerEvents = inherited (codes "pointer-events")
    (one_of (Auto ∷ NoneKeyword ∷ []) ∷ []) (keyword Auto)

-- all properties, in the order in which they are printed
abbrev pub properties : List Prop
properties =
    Display ∷ Width ∷ Height ∷ MinWidth ∷ MinHeight ∷ MaxWidth ∷ MaxHeight ∷ MarginTop ∷
    MarginRight ∷ MarginBottom ∷ MarginLeft ∷ PaddingTop ∷ PaddingRight ∷ PaddingBottom ∷
    PaddingLeft ∷ BorderTopWidth ∷ BorderRightWidth ∷ BorderBottomWidth ∷ BorderLeftWidth ∷
    BorderTopStyle ∷ BorderRightStyle ∷ BorderBottomStyle ∷ BorderLeftStyle ∷ BorderTopColor ∷
    BorderRightColor ∷ BorderBottomColor ∷ BorderLeftColor ∷ BoxSizing ∷ FontSize ∷ LineHeight ∷
    Color ∷ BackgroundColor ∷ TextAlign ∷ WhiteSpace ∷ Overflow ∷ Contain ∷ ContainerType ∷
    ContainerName ∷ Visibility ∷ Opacity ∷ FontStyle ∷ FontWeight ∷ ZIndex ∷ TextDecorationLine ∷
    PointerEvents ∷ []

-- ---- places

-- the place of a property in this order, from 0
abbrev pub prop_place : Prop → ℕ
prop_place Display = 0
prop_place Width = 1
prop_place Height = 2
prop_place MinWidth = 3
prop_place MinHeight = 4
prop_place MaxWidth = 5
prop_place MaxHeight = 6
prop_place MarginTop = 7
prop_place MarginRight = 8
prop_place MarginBottom = 9
prop_place MarginLeft = 10
prop_place PaddingTop = 11
prop_place PaddingRight = 12
prop_place PaddingBottom = 13
prop_place PaddingLeft = 14
prop_place BorderTopWidth = 15
prop_place BorderRightWidth = 16
prop_place BorderBottomWidth = 17
prop_place BorderLeftWidth = 18
prop_place BorderTopStyle = 19
prop_place BorderRightStyle = 20
prop_place BorderBottomStyle = 21
prop_place BorderLeftStyle = 22
prop_place BorderTopColor = 23
prop_place BorderRightColor = 24
prop_place BorderBottomColor = 25
prop_place BorderLeftColor = 26
prop_place BoxSizing = 27
prop_place FontSize = 28
prop_place LineHeight = 29
prop_place Color = 30
prop_place BackgroundColor = 31
prop_place TextAlign = 32
prop_place WhiteSpace = 33
prop_place Overflow = 34
prop_place Contain = 35
prop_place ContainerType = 36
prop_place ContainerName = 37
prop_place Visibility = 38
prop_place Opacity = 39
prop_place FontStyle = 40
prop_place FontWeight = 41
prop_place ZIndex = 42
prop_place TextDecorationLine = 43
prop_place PointerEvents = 44

abbrev pub is_same_prop : Prop → Prop → Bool
is_same_prop p q = prop_place p == prop_place q
