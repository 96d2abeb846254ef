-- What is not clamped.
use Rattle.units64.specs.Limits.{FitsUnits}
use Rattle.flow_model.specs.declared.row.Row.{Row}

-- what follows from the equation is within what a length may be
pub record Fits (row : Row) : Type 0 where
  pub left : FitsUnits row.margin_left
  pub width : FitsUnits row.width
  pub right : FitsUnits row.margin_right
