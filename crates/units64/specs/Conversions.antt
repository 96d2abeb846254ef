-- Units and millionths of a pixel.
use Rattle.std.specs.Prelude.{ℤ, ◌*ℤ◌, int_div}
use Rattle.units64.specs.declared.constants.TheConstants.{UNITS_PER_PIXEL, MILLIONTHS_PER_PIXEL, MILLIONTHS_PER_UNIT}

-- the millionths of a pixel that a number of units is, exactly
abbrev pub millionths_of : ℤ → ℤ
millionths_of units = units *ℤ MILLIONTHS_PER_UNIT

-- the units that a number of millionths of a pixel is, truncated towards zero
abbrev pub units_of : ℤ → ℤ
units_of millionths = int_div (millionths *ℤ UNITS_PER_PIXEL) MILLIONTHS_PER_PIXEL
