-- Heights that are not undetermined.
use Rattle.std.proofs.Common.{◌≡◌, refl, ℤ, Bool, true, false, ◌&&◌, Option, Some, is_none}
use Rattle.value_model.specs.Calculations.{ComputedLength}
use Rattle.flow_model.specs.Heights.{used_height_of_length}
use Rattle.flow_model.specs.UsedLengths.{has_percentage, or_zero, used_in}

-- what a height is that does not wait for contents
pub determined : (around : Option ℤ) (l : ComputedLength) → (has_percentage l && is_none around) ≡ false
    → Some (used_in (or_zero around) l) ≡ used_height_of_length around l
determined around l not = rw not refl
