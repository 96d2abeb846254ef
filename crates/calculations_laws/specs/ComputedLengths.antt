-- Which computed lengths there are (CSS Values 4, section 10.11).
use Rattle.std.specs.Prelude.{◌≡◌, ℤ, neg_ℤ, ◌&&◌, ◌||◌, not, int_le, Bool, true, false}
use Rattle.std.specs.List.{list_any, list_all}
use Rattle.units64.specs.declared.constants.TheConstants.{MAX_UNITS}
use Rattle.value_model.specs.declared.length_unit.Bases.{Bases}
use Rattle.value_model.specs.Lengths.{Length}
use Rattle.value_model.specs.Calculations.{Calculation, ComputedLeaf, in_units, in_percent, ComputedLength, leaf, leaves, computed_length, used_length, calculation_value, has_percentage}

-- from this number of units to the largest
abbrev pub is_units_from : ℤ → ℤ → Bool
is_units_from least n = int_le least n && int_le n MAX_UNITS

-- units by themselves
abbrev pub are_units : ComputedLength → Bool
are_units (leaf (in_units n)) = is_units_from (neg_ℤ MAX_UNITS) n
are_units c = false

abbrev pub is_percent : ComputedLeaf → Bool
is_percent (in_percent n) = true
is_percent l = false

abbrev pub is_of_units : ComputedLeaf → Bool
is_of_units (in_units n) = true
is_of_units l = false

-- of pixels and percentages, with at least one percentage
abbrev pub is_mixed : ComputedLength → Bool
is_mixed c = list_all (λ l. not (is_of_units l)) (leaves c) && list_any is_percent (leaves c)

-- a length or a percentage, perhaps calculated, which may be negative
abbrev pub is_length : ComputedLength → Bool
is_length c = are_units c || is_mixed c

-- what is computed is used as it was declared, where it has a percentage: nothing is truncated before
abbrev pub UsesWhatIsDeclared : Type 0
UsesWhatIsDeclared = (b : Bases) (base : ℤ) (c : Calculation Length) → has_percentage c ≡ true
    → used_length (computed_length b c) base ≡ calculation_value b base c
