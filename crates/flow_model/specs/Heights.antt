-- The used values of a box, and its height (CSS 2.1, sections 10.5 to 10.7).
use Rattle.std.specs.Prelude.{ℤ, pos, ◌+ℤ◌, ◌&&◌, if◌then◌else◌, Option, Some, None, option_map, is_none, unwrap_or, Bool}
use Rattle.std.specs.Int.{int_max}
use Rattle.value_model.specs.declared.prop.Prop.{Prop}
use Rattle.value_model.specs.declared.prop.Prop.TheVariants.{BoxSizing, Overflow, Height, MinHeight, MaxHeight, MarginTop, MarginBottom, PaddingTop, PaddingBottom, BorderTopWidth, BorderBottomWidth}
use Rattle.value_model.specs.Calculations.{ComputedLength}
use Rattle.value_model.specs.Values.{Final, length}
use Rattle.flow_model.specs.declared.containing.Containing.{Containing}
use Rattle.flow_model.specs.declared.effects.Effects.{Effects}
use Rattle.flow_model.specs.declared.used.Used.{Used}
use Rattle.flow_model.specs.Kinds.{is_visible}
use Rattle.flow_model.specs.PreferredWidths.{up_to}
use Rattle.flow_model.specs.declared.row.Row.{Row}
use Rattle.flow_model.specs.UsedLengths.{Values, has_percentage, used_in, used, or_zero, is_border_box, content_size}
use Rattle.flow_model.specs.Widths.{border_in, padding_in, row_of}

-- ---- heights before they are limited

-- a length, where percentages refer to the height of the containing block; where that depends on contents, what has a
-- percentage is as a keyword
abbrev pub used_height_of_length : Option ℤ → ComputedLength → Option ℤ
used_height_of_length around l =
    if has_percentage l && is_none around then None else Some (used_in (or_zero around) l)

abbrev pub used_height : Option ℤ → Final → Option ℤ
used_height around (length l) = used_height_of_length around l
used_height around v = None

-- borders and paddings above and below; percentages refer to the width of the containing block
abbrev pub vertical_edges : (around : ℤ) → Values → ℤ
vertical_edges around values =
    border_in around values BorderTopWidth +ℤ padding_in around values PaddingTop
    +ℤ padding_in around values PaddingBottom +ℤ border_in around values BorderBottomWidth

-- how much higher than the content box the box is that heights refer to
abbrev pub edges_in_height : (around : ℤ) → Values → ℤ
edges_in_height around values =
    if is_border_box (values BoxSizing) then vertical_edges around values else pos 0

-- `height`, `max-height` or `min-height`, of the content box; `auto` and `none` are no heights
abbrev pub height_in : Containing → Values → Prop → Option ℤ
height_in c values p =
    option_map (content_size (edges_in_height c.w values)) (used_height c.h (values p))

-- ---- used values

-- a margin above or below: `auto` is 0
abbrev pub vertical_margin_in : (around : ℤ) → Values → Prop → ℤ
vertical_margin_in around values p = or_zero (used around (values p))

abbrev pub used_with_row : Containing → Effects → Values → Row → Used
used_with_row c fx values row = record {
  ml = row.margin_left;
  bl = row.border_left;
  pl = row.padding_left;
  w = row.width;
  pr = row.padding_right;
  br = row.border_right;
  mr = row.margin_right;
  mt = vertical_margin_in c.w values MarginTop;
  bt = border_in c.w values BorderTopWidth;
  pt = padding_in c.w values PaddingTop;
  pb = padding_in c.w values PaddingBottom;
  bb = border_in c.w values BorderBottomWidth;
  mb = vertical_margin_in c.w values MarginBottom;
  min_h = or_zero (height_in c values MinHeight);
  h = height_in c values Height;
  max_h = height_in c values MaxHeight;
  independent = fx.independent;
  size_contained = fx.size_contained;
  layout_contained = fx.layout_contained;
  overflow_visible = is_visible (values Overflow);
}

-- the used values of a box in this containing block, whose contents have this pair
abbrev pub used_values : Containing → Effects → (inner_pair : ℤ × ℤ) → Values → Used
used_values c fx pair values = used_with_row c fx values (row_of c pair values)

-- ---- the height

-- where the block axis is contained, a box is as high as if it had no contents (CSS Containment 2, section 3.1)
abbrev pub auto_height_of : Used → (contents : ℤ) → ℤ
auto_height_of u contents = if u.size_contained then pos 0 else contents

-- the height of the content box, where contents are so high: limited by `max-height`, then by `min-height`
abbrev pub height_of : Used → (contents : ℤ) → ℤ
height_of u contents = int_max (up_to u.max_h (unwrap_or u.h (auto_height_of u contents))) u.min_h

-- the same where it does not depend on contents: percentages in the box refer to it
abbrev pub definite_height : Used → Option ℤ
definite_height u = option_map (λ h. height_of u (pos 0)) u.h

-- the height of the border box, exactly
abbrev pub border_box_height : Used → (height : ℤ) → ℤ
border_box_height u height = u.bt +ℤ u.pt +ℤ height +ℤ u.pb +ℤ u.bb

-- its width
abbrev pub border_box_width : Used → ℤ
border_box_width u = u.bl +ℤ u.pl +ℤ u.w +ℤ u.pr +ℤ u.br
