-- What faults tell.
use Rattle.std.specs.Prelude.{◌≡◌, Some, None, Result, Ok, Err}
use Rattle.css_model.specs.Classes.{Text}
use Rattle.rules_model.specs.Sheets.{limit_of_sheet}
use Rattle.rules_model.specs.declared.sheet_limit.SheetLimit.TheVariants as limit
use Rattle.css_rules.specs.declared.fault.SheetFault.{SheetFault}
use Rattle.css_rules.specs.declared.fault.SheetFault.TheVariants as sheet

-- a sheet is above no limit, and a fault tells the first one that it is above, unless memory ran
-- out
abbrev pub IsLimited : {X : Type 0} → Result X SheetFault → Text → Type 0
IsLimited (Ok x) text = limit_of_sheet text ≡ None
IsLimited (Err sheet.TooLarge) text = limit_of_sheet text ≡ Some limit.TooLarge
IsLimited (Err sheet.TooDeep) text = limit_of_sheet text ≡ Some limit.TooDeep
IsLimited (Err sheet.TooManyRules) text = limit_of_sheet text ≡ Some limit.TooManyRules
IsLimited (Err sheet.NoMemory) text = Unit {0}
