-- Values as they are declared, and as they are computed (CSS Cascade 4, sections 4.1 and 4.4).
use Rattle.std.specs.Prelude.{ℤ, List}
use Rattle.css_model.specs.Classes.{Text}
use Rattle.value_model.specs.declared.color.Color.{Color}
use Rattle.value_model.specs.declared.containment.Containment.{Containment}
use Rattle.value_model.specs.declared.keyword.Keyword.{Keyword}
use Rattle.value_model.specs.declared.wide_keyword.WideKeyword.{WideKeyword}
use Rattle.value_model.specs.Calculations.{Calculation, ComputedLength}
use Rattle.value_model.specs.Lengths.{Length}

-- the value of a declaration
pub data Value : Type 0 where
  wide_keyword : WideKeyword → Value
  keyword_value : Keyword → Value
  -- a length or a percentage, literal or calculated
  length_value : Calculation Length → Value
  -- in millionths
  number_value : ℤ → Value
  integer_value : ℤ → Value
  color_value : Color → Value
  containment_value : Containment → Value
  -- `none` is no name
  names_value : List Text → Value

-- a computed value
pub data Final : Type 0 where
  keyword : Keyword → Final
  length : ComputedLength → Final
  -- in millionths
  number : ℤ → Final
  -- from 0 to 1, in millionths
  alpha : ℤ → Final
  integer : ℤ → Final
  color : Color → Final
  containment : Containment → Final
  names : List Text → Final
