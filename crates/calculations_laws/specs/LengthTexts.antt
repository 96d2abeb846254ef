-- What the text of a computed length tells.
use Rattle.std.specs.Prelude.{◌≡◌, ℤ, ◌<◌, ◌^◌, unsigned_abs, true, ⊤}
use Rattle.value_model.specs.Calculations.{ComputedLeaf, in_units, in_pixels, in_percent, ComputedLength, leaf, sum, scaled, divided, smallest, largest, Calculations, no_calculations, calculation, length_text}
use Rattle.calculations_laws.specs.ComputedLengths.{is_length}

-- a number of at most 64 digits: of a longer one `decimal` writes the last 64, as of many others
abbrev pub IsShort : ℤ → Type 0
IsShort n = unsigned_abs n < 10 ^ 64

-- units are bounded by `is_length`
abbrev pub IsShortLeaf : ComputedLeaf → Type 0
IsShortLeaf (in_units units) = ⊤
IsShortLeaf (in_pixels millionths) = IsShort millionths
IsShortLeaf (in_percent millionths) = IsShort millionths

-- the numbers that `is_length` does not bound are short: those of leaves, factors and divisors
abbrev mutual
  pub HasShortLeaves : ComputedLength → Type 0
  HasShortLeaves (leaf l) = IsShortLeaf l
  HasShortLeaves (sum a b) = HasShortLeaves a × HasShortLeaves b
  HasShortLeaves (scaled a factor) = HasShortLeaves a × IsShort factor
  HasShortLeaves (divided a divisor) = HasShortLeaves a × IsShort divisor
  HasShortLeaves (smallest a others) = HasShortLeaves a × HaveShortLeaves others
  HasShortLeaves (largest a others) = HasShortLeaves a × HaveShortLeaves others

  pub HaveShortLeaves : Calculations ComputedLeaf → Type 0
  HaveShortLeaves no_calculations = ⊤
  HaveShortLeaves (calculation a others) = HasShortLeaves a × HaveShortLeaves others

-- two computed lengths that have the same text are the same
abbrev pub TellsLengthsApart : Type 0
TellsLengthsApart = (c d : ComputedLength) → is_length c ≡ true → is_length d ≡ true
    → HasShortLeaves c → HasShortLeaves d → length_text c ≡ length_text d → c ≡ d
