-- The used widths of an element's box, from its style (CSS 2.1, sections 8.3, 8.4 and 10.2 to 10.4).
use Rattle.std.specs.Prelude.{ℤ, pos, if◌then◌else◌, Option, option_map, Bool}
use Rattle.value_model.specs.declared.prop.Prop.{Prop}
use Rattle.value_model.specs.declared.prop.Prop.TheVariants.{BoxSizing, Width, MinWidth, MaxWidth, MarginLeft, MarginRight, PaddingLeft, PaddingRight, BorderLeftWidth, BorderRightWidth}
use Rattle.flow_model.specs.declared.containing.Containing.{Containing}
use Rattle.flow_model.specs.declared.row.Beside.{Beside}
use Rattle.flow_model.specs.declared.row.Row.{Row}
use Rattle.flow_model.specs.Rows.{edges, block_row, inline_block_row, clamped_row, row_within}
use Rattle.flow_model.specs.UsedLengths.{Values, used, or_zero, not_below_zero, is_border_box, content_size}

-- ---- margins, borders and paddings; percentages refer to the width of the containing block

abbrev pub border_in : (around : ℤ) → Values → Prop → ℤ
border_in around values p = or_zero (used around (values p))

abbrev pub padding_in : (around : ℤ) → Values → Prop → ℤ
padding_in around values p = not_below_zero (or_zero (used around (values p)))

abbrev pub beside : (around : ℤ) → Values → Beside
beside around values = record {
  margin_left = used around (values MarginLeft);
  border_left = border_in around values BorderLeftWidth;
  padding_left = padding_in around values PaddingLeft;
  padding_right = padding_in around values PaddingRight;
  border_right = border_in around values BorderRightWidth;
  margin_right = used around (values MarginRight);
}

-- ---- widths

-- how much wider than the content box the box is that widths refer to
abbrev pub edges_in_width : (around : ℤ) → Values → ℤ
edges_in_width around values =
    if is_border_box (values BoxSizing) then edges (beside around values) else pos 0

-- `width`, `max-width` or `min-width`, of the content box; `auto` and `none` are no widths
abbrev pub width_in : (around : ℤ) → Values → Prop → Option ℤ
width_in around values p =
    option_map (content_size (edges_in_width around values)) (used around (values p))

-- the used values for a width and what is beside it
abbrev pub row_for : Containing → (inner_pair : ℤ × ℤ) → Beside → Option ℤ → Row
row_for c pair b width = clamped_row (
    if c.inline_block then inline_block_row c.w pair b width else block_row c.w b width)

-- the used values
abbrev pub row_of : Containing → (inner_pair : ℤ × ℤ) → Values → Row
row_of c pair values = row_within (row_for c pair (beside c.w values))
    (width_in c.w values Width) (width_in c.w values MaxWidth) (width_in c.w values MinWidth)
