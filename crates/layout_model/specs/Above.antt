-- What an element sees of what is above it: what its style and its kind of box depend on, and its containing block.
use Rattle.std.specs.Prelude.{ℕ, ℤ, pos, ◌*ℤ◌, if◌then◌else◌, Option, Some, None, option_map, is_none, unwrap_or, Bool, true, false}
use Rattle.units64.specs.declared.constants.TheConstants.{UNITS_PER_PIXEL}
use Rattle.page_model.specs.declared.viewport.Viewport.{Viewport}
use Rattle.cascade_model.specs.Defaulting.{font_size_in, value_in}
use Rattle.cascade_model.specs.Styling.{Styling}
use Rattle.cascade_model.specs.DocumentStyles.{Page, element_style, initial_font_size}
use Rattle.flow_model.specs.declared.box_kind.BoxKind.{BoxKind}
use Rattle.flow_model.specs.declared.box_kind.BoxKind.TheVariants as kinds
use Rattle.flow_model.specs.declared.containing.Containing.{Containing}
use Rattle.flow_model.specs.declared.effects.Effects.{Effects}
use Rattle.flow_model.specs.declared.used.Used.{Used}
use Rattle.flow_model.specs.Heights.{definite_height}
use Rattle.flow_model.specs.Kinds.{effects, is_inline_block}
use Rattle.flow_model.specs.UsedLengths.{Values}
use Rattle.layout_model.specs.Entries.{BoxResults}

-- ---- styles and kinds

-- what is above an element: the style of its parent, which the root has none of; the font size of the root, to which
-- `rem` refers; whether an element above has no box
pub record Above : Type 0 where
  pub parent : Option Styling
  pub rem : ℤ
  pub hidden : Bool

abbrev pub above_root : Above
above_root = record { parent = None; rem = initial_font_size; hidden = false }

-- the font size that is inherited; nothing is above the root, and `em` and `rem` are the initial one there (CSS Values 4,
-- section 6.1)
abbrev pub font_size_above : Above → ℤ
font_size_above above = unwrap_or (option_map (λ s. font_size_in s.style) above.parent) initial_font_size

-- which style the element with an id gets below these
abbrev pub Cascade : Type 0
Cascade = Above → ℕ → Styling

-- by the cascade
abbrev pub cascade : Page → Cascade
cascade page above i = element_style page above.parent (font_size_above above) above.rem i

abbrev pub values_of : Styling → Values
values_of style p = value_in style.style p

-- what a style makes of the element's box
abbrev pub effects_below : Above → Styling → Effects
effects_below above style = effects (values_of style) (is_none above.parent)

-- an element below one without a box has none either (CSS 2.1, section 9.2.4)
abbrev pub kind_below : Above → Styling → BoxKind
kind_below above style = if above.hidden then kinds.NoBox else (effects_below above style).kind

abbrev pub has_no_box : BoxKind → Bool
has_no_box kinds.NoBox = true
has_no_box kind = false

-- what is above the children of an element with this style and kind
abbrev pub above_children : Above → Styling → BoxKind → Above
above_children above style kind = record {
  parent = Some style;
  rem = if is_none above.parent then font_size_in style.style else above.rem;
  hidden = has_no_box kind;
}

-- ---- containing blocks (CSS 2.1, section 10.1)

abbrev pub units_of : (pixels : ℕ) → ℤ
units_of pixels = UNITS_PER_PIXEL *ℤ pos pixels

-- that of the root: the viewport, whose height is definite
abbrev pub viewport_containing : Viewport → Containing
viewport_containing v = record { w = units_of v.width; h = Some (units_of v.height); inline_block = false }

-- the content box of a box
abbrev pub content_box : Used → Containing
content_box used = record { w = used.w; h = definite_height used; inline_block = false }

-- that of the children of an element: its content box, or what contains the element where it has no such box
abbrev pub containing_children : Containing → Option BoxResults → Containing
containing_children around None = around
containing_children around (Some box) = content_box box.used

-- a box of this kind is laid into a containing block by the rules for its kind
abbrev pub laid_as : BoxKind → Containing → Containing
laid_as kind around = record around { inline_block = is_inline_block kind }
