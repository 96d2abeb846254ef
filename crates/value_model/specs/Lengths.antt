-- Lengths and percentages, and their values (CSS Values 4, sections 5 and 6; CSS Conditional 5,
-- section 7).
use Rattle.std.specs.Prelude.{ℕ, ℤ, pos, ◌*ℤ◌, int_div, int_lt, if◌then◌else◌, List, [], ◌∷◌, codes, Option, Some, None, option_map, option_and_then, Bool, true, false}
use Rattle.std.specs.Map.{lookup}
use Rattle.std.specs.Int.{int_min, int_max}
use Rattle.std.specs.Ordering.{int_eq}
use Rattle.std.specs.Str.{str_eq_ignore_ascii_case}
use Rattle.units64.specs.Conversions.{millionths_of, units_of}
use Rattle.units64.specs.Limits.{clamped_millionths, clamped_units}
use Rattle.units64.specs.declared.constants.TheConstants.{UNITS_PER_PIXEL, MILLIONTHS_PER_PIXEL}
use Rattle.css_model.specs.declared.token.TokenType.{TokenType}
use Rattle.css_model.specs.declared.token.TokenType.TheVariants.{Number, Percentage, Dimension}
use Rattle.css_model.specs.Classes.{Text}
use Rattle.css_model.specs.Components.{Component, preserved}
use Rattle.value_model.specs.declared.length_unit.Bases.{Bases}
use Rattle.value_model.specs.declared.length_unit.LengthUnit.{LengthUnit}
use Rattle.value_model.specs.declared.unit_set.UnitSet.{UnitSet}
use Rattle.value_model.specs.declared.length_unit.LengthBase.{LengthBase}
use Rattle.value_model.specs.declared.length_unit.LengthBase.TheVariants.{Pixel, Em, Rem, Vw, Vh, Vmin, Vmax, Cqw, Cqh, Cqmin, Cqmax}

-- a literal: a number of millionths of a unit, or of a percent
pub data Length : Type 0 where
  dimension : (millionths : ℤ) → LengthUnit → Length
  percentage : (millionths : ℤ) → Length

-- ---- units (CSS Values 4, sections 6.1 and 6.2)

abbrev pub unit : LengthBase → ℕ → ℕ → LengthUnit
unit base numerator denominator = record { base = base; numerator = numerator; denominator = denominator }

-- the units, by their names
abbrev pub units : List (Text × LengthUnit)
units =
    (codes "px", unit Pixel 1 1) ∷ (codes "pc", unit Pixel 16 1) ∷ (codes "in", unit Pixel 96 1)
    ∷ (codes "pt", unit Pixel 96 72) ∷ (codes "cm", unit Pixel 9600 254)
    ∷ (codes "mm", unit Pixel 960 254) ∷ (codes "q", unit Pixel 240 254)
    ∷ (codes "em", unit Em 1 1) ∷ (codes "ex", unit Em 1 2) ∷ (codes "ch", unit Em 1 2)
    ∷ (codes "rem", unit Rem 1 1)
    ∷ (codes "vw", unit Vw 1 100) ∷ (codes "vi", unit Vw 1 100) ∷ (codes "svw", unit Vw 1 100)
    ∷ (codes "lvw", unit Vw 1 100) ∷ (codes "dvw", unit Vw 1 100)
    ∷ (codes "vh", unit Vh 1 100) ∷ (codes "vb", unit Vh 1 100) ∷ (codes "svh", unit Vh 1 100)
    ∷ (codes "lvh", unit Vh 1 100) ∷ (codes "dvh", unit Vh 1 100)
    ∷ (codes "vmin", unit Vmin 1 100) ∷ (codes "vmax", unit Vmax 1 100)
    ∷ (codes "cqw", unit Cqw 1 100) ∷ (codes "cqi", unit Cqw 1 100)
    ∷ (codes "cqh", unit Cqh 1 100) ∷ (codes "cqb", unit Cqh 1 100)
    ∷ (codes "cqmin", unit Cqmin 1 100) ∷ (codes "cqmax", unit Cqmax 1 100) ∷ []

-- the unit of this name, in any case
abbrev pub unit_of : Text → Option LengthUnit
unit_of name = lookup (λ n. str_eq_ignore_ascii_case name n) units

-- ---- how they are written

-- a dimension with a unit of length, or the number 0
abbrev pub length_of_type : TokenType → Option Length
length_of_type (Dimension n name) = option_map (λ u. dimension n.millionths u) (unit_of name)
length_of_type (Number n) =
    if int_eq n.millionths (pos 0) then Some (dimension (pos 0) (unit Pixel 1 1)) else None
length_of_type other = None

-- the same, or a percentage
abbrev pub length_or_percentage_of_type : TokenType → Option Length
length_or_percentage_of_type (Percentage n) = Some (percentage n.millionths)
length_or_percentage_of_type other = length_of_type other

-- the length that a component value is, if it is one
abbrev pub length_of : Component → Option Length
length_of (preserved t) = length_of_type t.token_type
length_of other = None

abbrev pub length_or_percentage_of : Component → Option Length
length_or_percentage_of (preserved t) = length_or_percentage_of_type t.token_type
length_or_percentage_of other = None

-- below 0, as it is written
abbrev pub is_negative : Length → Bool
is_negative (dimension millionths u) = int_lt millionths (pos 0)
is_negative (percentage millionths) = int_lt millionths (pos 0)

-- a length, where it is not negative
abbrev pub not_negative : Option Length → Option Length
not_negative length = option_and_then (λ l. if is_negative l then None else Some l) length

-- ---- values

-- what a unit refers to, in units of 1/64 pixel
abbrev pub base_length : Bases → LengthBase → ℤ
base_length b Pixel = UNITS_PER_PIXEL
base_length b Em = b.em
base_length b Rem = b.rem
base_length b Vw = b.vw
base_length b Vh = b.vh
base_length b Vmin = int_min b.vw b.vh
base_length b Vmax = int_max b.vw b.vh
base_length b Cqw = b.cqw
base_length b Cqh = b.cqh
base_length b Cqmin = int_min b.cqw b.cqh
base_length b Cqmax = int_max b.cqw b.cqh

-- the value in millionths of a pixel of these millionths of a unit: one exact quotient, truncated
-- towards zero
abbrev pub dimension_value : Bases → ℤ → LengthUnit → ℤ
dimension_value b millionths u = clamped_millionths
    (int_div (millionths *ℤ pos u.numerator *ℤ millionths_of (base_length b u.base))
    (pos u.denominator *ℤ MILLIONTHS_PER_PIXEL))

-- the same of a length; a percentage has no value by itself
abbrev pub length_value : Bases → Length → ℤ
length_value b (dimension millionths u) = dimension_value b millionths u
length_value b (percentage millionths) = pos 0

-- a number of millionths of a pixel, in units
abbrev pub in_clamped_units : ℤ → ℤ
in_clamped_units millionths = clamped_units (units_of millionths)

-- a percentage of a base in units, in millionths of a pixel: one exact quotient, truncated
abbrev pub percentage_value : ℤ → ℤ → ℤ
percentage_value millionths base = clamped_millionths
    (int_div (millionths *ℤ millionths_of base) (pos 100 *ℤ MILLIONTHS_PER_PIXEL))

-- ---- what a length refers to

abbrev pub unit_set : (em rem vw vh cqw cqh : Bool) → UnitSet
unit_set em rem vw vh cqw cqh = record { em = em; rem = rem; vw = vw; vh = vh; cqw = cqw; cqh = cqh }

-- the bases on which the length of this unit depends
abbrev pub bases_of_unit : LengthBase → UnitSet
bases_of_unit Pixel = unit_set false false false false false false
bases_of_unit Em = unit_set true false false false false false
bases_of_unit Rem = unit_set false true false false false false
bases_of_unit Vw = unit_set false false true false false false
bases_of_unit Vh = unit_set false false false true false false
bases_of_unit Vmin = unit_set false false true true false false
bases_of_unit Vmax = unit_set false false true true false false
bases_of_unit Cqw = unit_set false false false false true false
bases_of_unit Cqh = unit_set false false false false false true
bases_of_unit Cqmin = unit_set false false false false true true
bases_of_unit Cqmax = unit_set false false false false true true

abbrev pub mentioned : Length → UnitSet
mentioned (dimension millionths u) = bases_of_unit u.base
mentioned (percentage millionths) = unit_set false false false false false false
