-- Which computed values each property has (CSS Cascade 4, section 4.4; the modules of each property).
-- How large a number, a percentage or an integer may be is not said here.
use Rattle.std.specs.Prelude.{◌≡◌, ℕ, ℤ, pos, ◌&&◌, ◌||◌, not, nat_le, int_le, List, [], ◌∷◌, Bool, true, false}
use Rattle.std.specs.List.{list_any, list_all}
use Rattle.std.specs.Str.{bytes_eq, str_eq_ignore_ascii_case}
use Rattle.css_model.specs.Classes.{Text}
use Rattle.value_model.specs.declared.color.Color.TheVariants.{CurrentColor, Rgba as AnRgba}
use Rattle.value_model.specs.declared.color.Rgba.{Rgba}
use Rattle.value_model.specs.declared.keyword.Keyword.{Keyword}
use Rattle.value_model.specs.declared.keyword.Keyword.TheVariants.{Auto, None as NoneKeyword, Block, Inline, InlineBlock, FlowRoot, Hidden, ContentBox, BorderBox, Normal, Left, Right, Center, Nowrap, Visible, Scroll, InlineSize, Size, Collapse, Italic, Oblique, Underline, Overline, LineThrough}
use Rattle.value_model.specs.declared.length_unit.Bases.{Bases}
use Rattle.value_model.specs.declared.prop.Prop.{Prop}
use Rattle.value_model.specs.declared.prop.Prop.TheVariants.{Display, Width, Height, MinWidth, MinHeight, MaxWidth, MaxHeight, MarginTop, MarginRight, MarginBottom, MarginLeft, PaddingTop, PaddingRight, PaddingBottom, PaddingLeft, BorderTopWidth, BorderRightWidth, BorderBottomWidth, BorderLeftWidth, BorderTopStyle, BorderRightStyle, BorderBottomStyle, BorderLeftStyle, BorderTopColor, BorderRightColor, BorderBottomColor, BorderLeftColor, BoxSizing, FontSize, LineHeight, Color, BackgroundColor, TextAlign, WhiteSpace, Overflow, Contain, ContainerType, ContainerName, Visibility, Opacity, FontStyle, FontWeight, ZIndex, TextDecorationLine, PointerEvents}
use Rattle.value_model.specs.Calculations.{leaf, in_units}
use Rattle.value_model.specs.Computing.{computed}
use Rattle.value_model.specs.Forms.{is_between, no_container_names}
use Rattle.value_model.specs.Keywords.{keyword_text}
use Rattle.value_model.specs.Properties.{line_styles}
use Rattle.value_model.specs.Values.{Value, color_value, Final, keyword, length, number, alpha, integer, color, containment, names}
use Rattle.calculations_laws.specs.ComputedLengths
use Rattle.calculations_laws.specs.ComputedLengths.{is_units_from}

-- ---- one kind of value

-- one of these keywords, by its text
abbrev pub is_among : List Keyword → Keyword → Bool
is_among keywords k = list_any (λ other. bytes_eq (keyword_text other) (keyword_text k)) keywords

abbrev pub is_one_of : List Keyword → Final → Bool
is_one_of keywords (keyword k) = is_among keywords k
is_one_of keywords v = false

-- a length without a percentage, and not below 0
abbrev pub is_absolute_length : Final → Bool
is_absolute_length (length (leaf (in_units n))) = is_units_from (pos 0) n
is_absolute_length v = false

-- a length or a percentage, perhaps calculated. It may be below 0, since what a calculation gives is cut
-- at 0 only where it is used (CSS Values 4, section 10.12)
abbrev pub is_length : Final → Bool
is_length (length l) = ComputedLengths.is_length l
is_length v = false

-- a number that is not below 0
abbrev pub is_number : Final → Bool
is_number (number n) = int_le (pos 0) n
is_number v = false

-- from 0 to 1
abbrev pub is_alpha : Final → Bool
is_alpha (alpha n) = is_between 0 1000000 n
is_alpha v = false

abbrev pub is_integer_between : ℕ → ℕ → Final → Bool
is_integer_between least greatest (integer n) = is_between least greatest n
is_integer_between least greatest v = false

abbrev pub is_any_integer : Final → Bool
is_any_integer (integer n) = true
is_any_integer v = false

-- red, green, blue and alpha are from 0 to 255 (CSS Color 4, section 5.2)
abbrev pub is_rgba : Rgba → Bool
is_rgba c = list_all (λ n. nat_le n 255) (c.red ∷ c.green ∷ c.blue ∷ c.alpha ∷ [])

-- a colour other than `currentcolor`
abbrev pub is_color : Final → Bool
is_color (color (AnRgba c)) = is_rgba c
is_color v = false

-- a colour, or `currentcolor`
abbrev pub is_any_color : Final → Bool
is_any_color (color CurrentColor) = true
is_any_color v = is_color v

-- not both `size` and `inline-size` (CSS Containment 2, section 2)
abbrev pub is_containment : Final → Bool
is_containment (containment c) = not (c.size && c.inline_size)
is_containment v = false

-- an identifier that is the name of a container (CSS Conditional 5, section 5.2)
abbrev pub is_container_name : Text → Bool
is_container_name name = not (list_any (str_eq_ignore_ascii_case name) no_container_names)

-- names of containers; without one it is `none`
abbrev pub are_container_names : Final → Bool
are_container_names (names ns) = list_all is_container_name ns
are_container_names v = false

-- ---- all properties

-- a computed value is one of this property
abbrev pub is_computed : Prop → Final → Bool
is_computed Display v = is_one_of (Block ∷ Inline ∷ InlineBlock ∷ FlowRoot ∷ NoneKeyword ∷ []) v
is_computed Width v = is_one_of (Auto ∷ []) v || is_length v
is_computed Height v = is_one_of (Auto ∷ []) v || is_length v
is_computed MinWidth v = is_length v
is_computed MinHeight v = is_length v
is_computed MaxWidth v = is_one_of (NoneKeyword ∷ []) v || is_length v
is_computed MaxHeight v = is_one_of (NoneKeyword ∷ []) v || is_length v
is_computed MarginTop v = is_one_of (Auto ∷ []) v || is_length v
is_computed MarginRight v = is_one_of (Auto ∷ []) v || is_length v
is_computed MarginBottom v = is_one_of (Auto ∷ []) v || is_length v
is_computed MarginLeft v = is_one_of (Auto ∷ []) v || is_length v
is_computed PaddingTop v = is_length v
is_computed PaddingRight v = is_length v
is_computed PaddingBottom v = is_length v
is_computed PaddingLeft v = is_length v
is_computed BorderTopWidth v = is_absolute_length v
is_computed BorderRightWidth v = is_absolute_length v
is_computed BorderBottomWidth v = is_absolute_length v
is_computed BorderLeftWidth v = is_absolute_length v
is_computed BorderTopStyle v = is_one_of line_styles v
is_computed BorderRightStyle v = is_one_of line_styles v
is_computed BorderBottomStyle v = is_one_of line_styles v
is_computed BorderLeftStyle v = is_one_of line_styles v
is_computed BorderTopColor v = is_any_color v
is_computed BorderRightColor v = is_any_color v
is_computed BorderBottomColor v = is_any_color v
is_computed BorderLeftColor v = is_any_color v
is_computed BoxSizing v = is_one_of (ContentBox ∷ BorderBox ∷ []) v
is_computed FontSize v = is_absolute_length v
is_computed LineHeight v = is_one_of (Normal ∷ []) v || (is_number v || is_absolute_length v)
is_computed Color v = is_color v
is_computed BackgroundColor v = is_any_color v
is_computed TextAlign v = is_one_of (Left ∷ Right ∷ Center ∷ []) v
is_computed WhiteSpace v = is_one_of (Normal ∷ Nowrap ∷ []) v
is_computed Overflow v = is_one_of (Visible ∷ Hidden ∷ Scroll ∷ Auto ∷ []) v
is_computed Contain v = is_containment v
is_computed ContainerType v = is_one_of (Normal ∷ InlineSize ∷ Size ∷ []) v
is_computed ContainerName v = are_container_names v
is_computed Visibility v = is_one_of (Visible ∷ Hidden ∷ Collapse ∷ []) v
is_computed Opacity v = is_alpha v
is_computed FontStyle v = is_one_of (Normal ∷ Italic ∷ Oblique ∷ []) v
is_computed FontWeight v = is_integer_between 1 1000 v
is_computed ZIndex v = is_one_of (Auto ∷ []) v || is_any_integer v
is_computed TextDecorationLine v =
    is_one_of (NoneKeyword ∷ Underline ∷ Overline ∷ LineThrough ∷ []) v
is_computed PointerEvents v = is_one_of (Auto ∷ NoneKeyword ∷ []) v

-- ---- what is computed

-- `currentcolor` for `color`, which is `inherit` and is not computed (CSS Color 4, section 6.4)
abbrev pub is_inherited_color : Prop → Value → Bool
is_inherited_color Color (color_value CurrentColor) = true
is_inherited_color p v = false

-- a value computes to one of the property's computed values, if it is computed
abbrev pub Computes : Bases → (parent_font : ℤ) → Prop → Value → Type 0
Computes b parent_font p v =
    is_inherited_color p v ≡ false → is_computed p (computed p v b parent_font) ≡ true
