-- Computed values as sizes of boxes. Lengths are integers in units of 1/64 pixel.
use Rattle.std.specs.Prelude.{ℤ, pos, ◌-ℤ◌, Bool, true, false, Option, Some, None, is_none, unwrap_or}
use Rattle.std.specs.Int.{int_max}
use Rattle.units64.specs.Limits.{clamped_units}
use Rattle.value_model.specs.declared.keyword.Keyword.TheVariants.{BorderBox}
use Rattle.value_model.specs.declared.prop.Prop.{Prop}
use Rattle.value_model.specs.declared.prop.Prop.TheVariants.{BoxSizing}
use Rattle.value_model.specs.Calculations.{ComputedLength, in_units, leaf, used_length}
use Rattle.value_model.specs.Lengths.{in_clamped_units}
use Rattle.value_model.specs.Values.{Final, keyword, length}

-- the computed values of an element
abbrev pub Values : Type 0
Values = Prop → Final

-- ---- lengths

-- what a length without a percentage is by itself
abbrev pub fixed_length : ComputedLength → Option ℤ
fixed_length (leaf (in_units n)) = Some n
fixed_length l = None

abbrev pub has_percentage : ComputedLength → Bool
has_percentage l = is_none (fixed_length l)

-- the same of a value; a keyword is no length
abbrev pub fixed : Final → Option ℤ
fixed (length l) = fixed_length l
fixed v = None

-- the used length where percentages refer to this base
abbrev pub used_in : ℤ → ComputedLength → ℤ
used_in base l = in_clamped_units (used_length l base)

-- the same of a value; a keyword is no length
abbrev pub used : ℤ → Final → Option ℤ
used base (length l) = Some (used_in base l)
used base v = None

-- `auto` and `none` as 0
abbrev pub or_zero : Option ℤ → ℤ
or_zero n = unwrap_or n (pos 0)

abbrev pub not_below_zero : ℤ → ℤ
not_below_zero n = int_max (pos 0) n

-- ---- the box that sizes refer to (CSS Sizing 3, section 3.3)

abbrev pub is_border_box : Final → Bool
is_border_box (keyword BorderBox) = true
is_border_box v = false

-- a width or height as one of the content box, where the box that it refers to is larger by so much
abbrev pub content_size : (edges : ℤ) → ℤ → ℤ
content_size edges n = clamped_units (not_below_zero (not_below_zero n -ℤ edges))
