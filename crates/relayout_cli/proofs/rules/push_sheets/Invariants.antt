use Rattle.std.proofs.Common.{◌≡◌, ◌++◌, drop, string_bytes}
use Rattle.relayout_cli.specs.Sheets.{kept_rules}
use Rattle.relayout_cli.specs.inner.RuleLines.{lines_of_all}
use Rattle.relayout_cli.proofs.rules.push_sheets.Given as goal

-- the lines so far and those of the other sheets are those of all
abbrev pub invariant-loop-number : goal.invariant-loop-number
invariant-loop-number l = string_bytes l.reply ++ lines_of_all l.number (kept_rules (drop l.number l.sheets)) ≡ string_bytes l.fn.reply ++ lines_of_all 0 (kept_rules l.sheets)
