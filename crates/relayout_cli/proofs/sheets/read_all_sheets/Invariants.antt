use Rattle.std.proofs.Common.{◌≡◌, ◌++◌, drop}
use Rattle.std.specs.List.{list_any}
use Rattle.request_model.specs.States.{is_over_sheet_limit}
use Rattle.relayout_cli.specs.Sheets.{texts_of, kept_rules, text_rules}
use Rattle.relayout_cli.proofs.sheets.read_all_sheets.Given as goal

abbrev pub invariant-loop-text : goal.invariant-loop-text
invariant-loop-text l = record {
  texts : texts_of l.sheets ++ drop l.text-index l.texts ≡ l.texts;
  rules : kept_rules l.sheets ≡ text_rules l.sheets;
  over : list_any is_over_sheet_limit (drop l.text-index l.texts) ≡ list_any is_over_sheet_limit l.texts;
}
