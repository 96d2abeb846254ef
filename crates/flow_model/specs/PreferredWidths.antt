-- Preferred widths (CSS 2.1, section 10.3.5; CSS Sizing 3, section 5.2): as narrow and as wide as contents make a box.
-- A pair is a minimum and a preferred width; the inner pair is of the content box, the outer one of the margin box.
use Rattle.std.specs.Prelude.{ℤ, pos, ◌+ℤ◌, ◌||◌, if◌then◌else◌, List, map, Option, Some, None, option_map, unwrap_or, Bool}
use Rattle.std.specs.Int.{int_min, int_max}
use Rattle.std.specs.List.{fold}
use Rattle.units64.specs.Limits.{clamped_units}
use Rattle.value_model.specs.declared.prop.Prop.{Prop}
use Rattle.value_model.specs.declared.prop.Prop.TheVariants.{BoxSizing, Width, MinWidth, MaxWidth, MarginLeft, MarginRight, PaddingLeft, PaddingRight, BorderLeftWidth, BorderRightWidth}
use Rattle.flow_model.specs.declared.effects.Effects.{Effects}
use Rattle.flow_model.specs.UsedLengths.{Values, fixed, or_zero, not_below_zero, is_border_box, content_size}

-- ---- the inner pair

-- the greatest of all, and not below 0
abbrev pub greatest : List ℤ → ℤ
greatest ns = fold int_max (pos 0) ns

-- of contents that are blocks with these outer pairs, or lines with these pairs
abbrev pub pair_of_contents : List (ℤ × ℤ) → ℤ × ℤ
pair_of_contents pairs = (greatest (map (λ p. p.0) pairs), greatest (map (λ p. p.1) pairs))

-- where the inline axis is contained, a box is as wide as if it had no contents (CSS Containment 3, section 3.2)
abbrev pub inner_pair : Effects → (contents : ℤ × ℤ) → ℤ × ℤ
inner_pair fx contents = if fx.inline_contained || fx.size_contained then (pos 0, pos 0) else contents

-- ---- the outer pair

-- a length; `auto` and what has a percentage count as 0
abbrev pub fixed_or_zero : Values → Prop → ℤ
fixed_or_zero values p = or_zero (fixed (values p))

abbrev pub fixed_paddings : Values → ℤ
fixed_paddings values =
    not_below_zero (fixed_or_zero values PaddingLeft) +ℤ not_below_zero (fixed_or_zero values PaddingRight)

abbrev pub fixed_borders : Values → ℤ
fixed_borders values = fixed_or_zero values BorderLeftWidth +ℤ fixed_or_zero values BorderRightWidth

abbrev pub fixed_margins : Values → ℤ
fixed_margins values = fixed_or_zero values MarginLeft +ℤ fixed_or_zero values MarginRight

-- how much wider than the content box the box is that widths refer to
abbrev pub fixed_edges_in_width : Values → ℤ
fixed_edges_in_width values =
    if is_border_box (values BoxSizing) then fixed_paddings values +ℤ fixed_borders values else pos 0

-- `width`, `max-width` or `min-width`, of the content box; a keyword and what has a percentage are none
abbrev pub fixed_width : Values → Prop → Option ℤ
fixed_width values p = option_map (content_size (fixed_edges_in_width values)) (fixed (values p))

abbrev pub up_to : Option ℤ → ℤ → ℤ
up_to None n = n
up_to (Some most) n = int_min n most

abbrev pub from : Option ℤ → ℤ → ℤ
from None n = n
from (Some least) n = int_max n least

-- a width of the content box, where contents make it so wide
abbrev pub limited_width : Values → ℤ → ℤ
limited_width values inner = from (fixed_width values MinWidth)
    (up_to (fixed_width values MaxWidth) (unwrap_or (fixed_width values Width) inner))

-- the same of the margin box
abbrev pub outer_width : Values → ℤ → ℤ
outer_width values inner = clamped_units (
    limited_width values inner +ℤ fixed_margins values +ℤ fixed_borders values +ℤ fixed_paddings values)

abbrev pub outer_pair : Values → (inner : ℤ × ℤ) → ℤ × ℤ
outer_pair values inner = (outer_width values inner.0, outer_width values inner.1)
