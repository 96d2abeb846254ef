use Rattle.std.proofs.Common.{◌∙◌, ap, ◌++◌, List}
use Rattle.css_rules.specs.declared.sheet.Sheet.{Sheet}
use Rattle.reply_model.specs.Spelling.{ok_line}
use Rattle.relayout_cli.specs.Sheets.{kept_rules}
use Rattle.relayout_cli.specs.inner.RuleLines.{lines_of_all}
use Rattle.relayout_cli.proofs.ReplyLemmas.{OnOk-after}
use Rattle.relayout_cli.proofs.SheetLemmas.{lines-parsed}
use Rattle.relayout_cli.proofs.rules.push_rules.Goals as goal

pub returns : goal.returns
returns c =
    OnOk-after c.push_ok.result _ _ _ (lines_of_all 0 (kept_rules c.as_slice.result.now)) ok_line _ c.push_ok.ensures.line c.in_ok-push_sheets.ensures
    (ap (λ l. l ++ ok_line) (ap (λ (sheets : List Sheet). lines_of_all 0 (kept_rules sheets)) c.as_slice.ensures ∙ lines-parsed c.args.page.now.sheets c.args.page.now.parsed))
