-- Sheets within all limits.
use Rattle.std.specs.Prelude.{◌≤◌}
use Rattle.css_model.specs.declared.token.TheConstants.{MAX_NESTING}
use Rattle.rules_model.specs.declared.limits.TheConstants.{MAX_SHEET_BYTES, MAX_STYLE_RULES}
use Rattle.rules_model.specs.Sheets.{SheetSize}

-- none of the limits is passed
pub record IsWithin (size : SheetSize) : Type 0 where
  pub bytes : size.bytes ≤ MAX_SHEET_BYTES
  pub levels : size.levels ≤ MAX_NESTING
  pub rules : size.rules ≤ MAX_STYLE_RULES
