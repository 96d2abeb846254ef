-- How large lengths and numbers are.
use Rattle.std.specs.Prelude.{ℤ, neg_ℤ, ◌≤ℤ◌}
use Rattle.std.specs.Int.{int_min, int_max}
use Rattle.units64.specs.declared.constants.TheConstants.{MAX_UNITS, MAX_MILLIONTHS}

-- a length may be this number of units
abbrev pub FitsUnits : ℤ → Type 0
FitsUnits n = (neg_ℤ MAX_UNITS ≤ℤ n) × (n ≤ℤ MAX_UNITS)

-- a number may be this number of millionths
abbrev pub FitsFixed6 : ℤ → Type 0
FitsFixed6 n = (neg_ℤ MAX_MILLIONTHS ≤ℤ n) × (n ≤ℤ MAX_MILLIONTHS)

-- a number of units, clamped to what a length may be
abbrev pub clamped_units : ℤ → ℤ
clamped_units n = int_max (neg_ℤ MAX_UNITS) (int_min MAX_UNITS n)

-- a number of millionths, clamped to what a number may be
abbrev pub clamped_millionths : ℤ → ℤ
clamped_millionths n = int_max (neg_ℤ MAX_MILLIONTHS) (int_min MAX_MILLIONTHS n)
