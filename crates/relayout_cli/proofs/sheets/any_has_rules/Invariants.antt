use Rattle.std.proofs.Common.{◌≡◌, drop}
use Rattle.std.specs.List.{list_any}
use Rattle.relayout_cli.specs.Sheets.{has_rules, kept_rules}
use Rattle.relayout_cli.proofs.sheets.any_has_rules.Given as goal

-- so far none has
abbrev pub invariant-loop-sheet : goal.invariant-loop-sheet
invariant-loop-sheet l = list_any has_rules (kept_rules (drop l.sheet-index l.sheets)) ≡ list_any has_rules (kept_rules l.sheets)
