-- What is the same for a whole run of the program.
use Rattle.std.specs.Prelude.{ℕ, List, []}

-- how far characters advance, in 64ths of the font size: all characters of a range alike
pub record Range : Type 0 where
  pub first : ℕ
  pub last : ℕ
  pub advance : ℕ

-- a character outside of every range advances by the default
pub record Advances : Type 0 where
  pub default : ℕ
  pub ranges : List Range

-- every character is half as wide as the font is high
abbrev pub default_advances : Advances
default_advances = record { default = 32; ranges = [] }

-- how wide characters are, and the profile, the set of rules by which the program goes; there is only 1
pub record Setting : Type 0 where
  pub advances : Advances
  pub profile : ℕ
