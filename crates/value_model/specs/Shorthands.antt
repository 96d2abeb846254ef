-- Shorthands, and the declarations that each stands for (CSS Cascade 4, sections 3 and 3.2; the modules
-- of each).
use Rattle.std.specs.Prelude.{◌==◌, if◌then◌else◌, List, [], ◌∷◌, map, codes, Option, Some, None, option_map, option_and_then, unwrap_or, is_some, Bool, false}
use Rattle.std.specs.Map.{lookup}
use Rattle.std.specs.Option.{option_or}
use Rattle.std.specs.Str.{str_eq_ignore_ascii_case}
use Rattle.css_model.specs.declared.token.TokenType.{TokenType}
use Rattle.css_model.specs.declared.token.TokenType.TheVariants.{Delim}
use Rattle.css_model.specs.Classes.{Text}
use Rattle.css_model.specs.Components.{Component, Components}
use Rattle.rules_model.specs.ComponentLists.{is_token}
use Rattle.value_model.specs.declared.color.Color.TheVariants.{CurrentColor, Rgba as AnRgba}
use Rattle.value_model.specs.declared.keyword.Keyword.TheVariants.{None as NoneKeyword, Medium, Normal}
use Rattle.value_model.specs.declared.prop.Prop.{Prop}
use Rattle.value_model.specs.declared.prop.Prop.TheVariants.{MarginTop, MarginRight, MarginBottom, MarginLeft, PaddingTop, PaddingRight, PaddingBottom, PaddingLeft, BorderTopWidth, BorderRightWidth, BorderBottomWidth, BorderLeftWidth, BorderTopStyle, BorderRightStyle, BorderBottomStyle, BorderLeftStyle, BorderTopColor, BorderRightColor, BorderBottomColor, BorderLeftColor, BackgroundColor, ContainerName, ContainerType}
use Rattle.value_model.specs.Colors.{rgba}
use Rattle.value_model.specs.Forms.{in_front, is_none_alone, unless}
use Rattle.value_model.specs.Grammar.{own_value_of, wide_keyword_of}
use Rattle.value_model.specs.Properties.{properties}
use Rattle.value_model.specs.Words.{words_of}
use Rattle.value_model.specs.Values.{Value, wide_keyword, keyword_value, color_value}

-- a property and the value that a shorthand gives it
abbrev pub Longhand : Type 0
Longhand = Prop × Value

-- the three properties of the border of one side
pub record Border : Type 0 where
  pub width : Prop
  pub style : Prop
  pub color : Prop

pub data Shorthand : Type 0 where
  -- one to four values, for top, right, bottom and left
  four_sides : (top right bottom left : Prop) → Shorthand
  -- one or two values, for the start and the end of an axis
  two_sides : (start end : Prop) → Shorthand
  -- a width, a style and a colour in any order, the same for each of these sides
  borders : List Border → Shorthand
  background : Shorthand
  container : Shorthand
  all : Shorthand

-- ---- names

abbrev pub border : Prop → Prop → Prop → Border
border width style color = record { width = width; style = style; color = color }

abbrev pub top_border : Border
top_border = border BorderTopWidth BorderTopStyle BorderTopColor

abbrev pub right_border : Border
right_border = border BorderRightWidth BorderRightStyle BorderRightColor

abbrev pub bottom_border : Border
bottom_border = border BorderBottomWidth BorderBottomStyle BorderBottomColor

abbrev pub left_border : Border
left_border = border BorderLeftWidth BorderLeftStyle BorderLeftColor

-- the shorthands, by their names
abbrev pub shorthands : List (Text × Shorthand)
shorthands =
    (codes "margin", four_sides MarginTop MarginRight MarginBottom MarginLeft)
    ∷ (codes "padding", four_sides PaddingTop PaddingRight PaddingBottom PaddingLeft)
    ∷ (
      codes "border-width",
      four_sides BorderTopWidth BorderRightWidth BorderBottomWidth BorderLeftWidth,
    )
    ∷ (
      codes "border-style",
      four_sides BorderTopStyle BorderRightStyle BorderBottomStyle BorderLeftStyle,
    )
    ∷ (
      codes "border-color",
      four_sides BorderTopColor BorderRightColor BorderBottomColor BorderLeftColor,
    )
    ∷ (codes "border", borders (top_border ∷ right_border ∷ bottom_border ∷ left_border ∷ []))
    ∷ (codes "border-top", borders (top_border ∷ []))
    ∷ (codes "border-right", borders (right_border ∷ []))
    ∷ (codes "border-bottom", borders (bottom_border ∷ []))
    ∷ (codes "border-left", borders (left_border ∷ []))
    ∷ (codes "background", background)
    ∷ (codes "container", container)
    ∷ (codes "margin-inline", two_sides MarginLeft MarginRight)
    ∷ (codes "margin-block", two_sides MarginTop MarginBottom)
    ∷ (codes "padding-inline", two_sides PaddingLeft PaddingRight)
    ∷ (codes "padding-block", two_sides PaddingTop PaddingBottom)
    ∷ (codes "all", all)
    ∷ []

-- the shorthand of this name, in any case
abbrev pub shorthand_of_name : Text → Option Shorthand
shorthand_of_name name = lookup (str_eq_ignore_ascii_case name) shorthands

-- ---- the properties that a shorthand sets

abbrev pub border_longhands : List Border → List Prop
border_longhands [] = []
border_longhands (b ∷ sides) = b.width ∷ b.style ∷ b.color ∷ border_longhands sides

abbrev pub longhands : Shorthand → List Prop
longhands (four_sides top right bottom left) = top ∷ right ∷ bottom ∷ left ∷ []
longhands (two_sides start end) = start ∷ end ∷ []
longhands (borders sides) = border_longhands sides
longhands background = BackgroundColor ∷ []
longhands container = ContainerName ∷ ContainerType ∷ []
longhands all = properties

-- ---- one value for each side

-- the value of a property that is one component value
abbrev pub longhand : Prop → Component → Option Longhand
longhand p c = option_map (λ v. (p, v)) (own_value_of p (c ∷ []))

abbrev pub each_of_two_values : (start end : Prop) → Component → Component → Option (List Longhand)
each_of_two_values p q w x = in_front (longhand p w) (in_front (longhand q x) (Some []))

abbrev pub each_of_two : (start end : Prop) → List Component → Option (List Longhand)
each_of_two p q (w ∷ []) = each_of_two_values p q w w
each_of_two p q (w ∷ x ∷ []) = each_of_two_values p q w x
each_of_two p q words = None

abbrev pub each_of_four_values : (top right bottom left : Prop)
    → Component → Component → Component → Component → Option (List Longhand)
each_of_four_values t r b l w x y z = in_front (longhand t w) (in_front (longhand r x)
    (in_front (longhand b y) (in_front (longhand l z) (Some []))))

-- the values of top, right, bottom and left; one that is missing is that of the other side of its axis,
-- and right that of top
abbrev pub each_of_four : (top right bottom left : Prop) → List Component → Option (List Longhand)
each_of_four t r b l (w ∷ []) = each_of_four_values t r b l w w w w
each_of_four t r b l (w ∷ x ∷ []) = each_of_four_values t r b l w x w x
each_of_four t r b l (w ∷ x ∷ y ∷ []) = each_of_four_values t r b l w x y x
each_of_four t r b l (w ∷ x ∷ y ∷ z ∷ []) = each_of_four_values t r b l w x y z
each_of_four t r b l words = None

-- ---- borders (CSS Backgrounds 3, section 3.4)

-- what was written of a border
pub record BorderParts : Type 0 where
  pub width : Option Value
  pub style : Option Value
  pub color : Option Value

-- with a part that may not be there before
abbrev pub with_width : Value → BorderParts → Option BorderParts
with_width v parts =
    unless (is_some parts.width) (record { width = Some v; style = parts.style; color = parts.color })

abbrev pub with_style : Value → BorderParts → Option BorderParts
with_style v parts =
    unless (is_some parts.style) (record { width = parts.width; style = Some v; color = parts.color })

abbrev pub with_color : Value → BorderParts → Option BorderParts
with_color v parts =
    unless (is_some parts.color) (record { width = parts.width; style = parts.style; color = Some v })

-- what one component value is of a border: its width, its style or its colour
abbrev pub border_part : Component → Option (BorderParts → Option BorderParts)
border_part c = option_or
    (option_map with_width (own_value_of BorderTopWidth (c ∷ [])))
    (option_or
    (option_map with_style (own_value_of BorderTopStyle (c ∷ [])))
    (option_map with_color (own_value_of BorderTopColor (c ∷ []))))

abbrev pub border_parts : List Component → Option BorderParts
border_parts [] = Some (record { width = None; style = None; color = None })
border_parts (c ∷ cs) = option_and_then (λ add. option_and_then add (border_parts cs)) (border_part c)

-- a part that is missing is initial
abbrev pub border_values : List Border → BorderParts → List Longhand
border_values [] parts = []
border_values (b ∷ sides) parts =
    (b.width, unwrap_or parts.width (keyword_value Medium))
    ∷ (b.style, unwrap_or parts.style (keyword_value NoneKeyword))
    ∷ (b.color, unwrap_or parts.color (color_value CurrentColor))
    ∷ border_values sides parts

-- at least one part
abbrev pub border_values_of : List Border → List Component → Option (List Longhand)
border_values_of sides [] = None
border_values_of sides (c ∷ cs) = option_map (border_values sides) (border_parts (c ∷ cs))

-- ---- `container` (CSS Conditional 5, section 5.3)

abbrev pub is_slash_type : TokenType → Bool
is_slash_type (Delim c) = c == 47
is_slash_type other = false

abbrev pub is_slash : Component → Bool
is_slash c = is_token is_slash_type c

-- the component values before the first `/`
abbrev pub before_slash : List Component → List Component
before_slash [] = []
before_slash (c ∷ cs) = if is_slash c then [] else c ∷ before_slash cs

-- those after it, if there is one
abbrev pub after_slash : List Component → Option (List Component)
after_slash [] = None
after_slash (c ∷ cs) = if is_slash c then Some cs else after_slash cs

-- the type after the `/`, or else the initial one
abbrev pub container_type_of : Option (List Component) → Option Value
container_type_of None = Some (keyword_value Normal)
container_type_of (Some words) = own_value_of ContainerType words

-- names or `none`, and perhaps a `/` and a type
abbrev pub container_values_of : List Component → Option (List Longhand)
container_values_of words = in_front
    (option_map (λ v. (ContainerName, v)) (own_value_of ContainerName (before_slash words)))
    (in_front (option_map (λ v. (ContainerType, v)) (container_type_of (after_slash words))) (Some []))

-- ---- `background` (CSS Backgrounds 3, section 2.10): a colour, or `none`

abbrev pub transparent : Value
transparent = color_value (AnRgba (rgba 0 0 0 0))

abbrev pub background_values_of : List Component → Option (List Longhand)
background_values_of words = in_front (option_map (λ v. (BackgroundColor, v))
    (if is_none_alone words then Some transparent
    else own_value_of BackgroundColor words)) (Some [])

-- ---- all shorthands

-- other than a CSS-wide keyword, which is all that `all` takes
abbrev pub own_values_of : Shorthand → List Component → Option (List Longhand)
own_values_of (four_sides t r b l) words = each_of_four t r b l words
own_values_of (two_sides p q) words = each_of_two p q words
own_values_of (borders sides) words = border_values_of sides words
own_values_of background words = background_values_of words
own_values_of container words = container_values_of words
own_values_of all words = None

-- a CSS-wide keyword is the value of each longhand
abbrev pub expansion_of_words : Shorthand → List Component → Option (List Longhand)
expansion_of_words s words = option_or
    (option_map (λ w. map (λ p. (p, wide_keyword w)) (longhands s)) (wide_keyword_of words))
    (own_values_of s words)

-- the values that a shorthand gives its longhands, where component values are a value of it
abbrev pub expansion_of : Shorthand → Components → Option (List Longhand)
expansion_of s cs = expansion_of_words s (words_of cs)
