use Rattle.std.proofs.Common.{◌∙◌, ap, sym, List}
use Rattle.std.specs.List.{list_any}
use Rattle.css_rules.specs.declared.sheet.Sheet.{Sheet}
use Rattle.request_model.specs.UnbuiltStyles.{is_unbuilt_rule}
use Rattle.relayout_cli.specs.Pages.{page_view}
use Rattle.relayout_cli.specs.Sheets.{kept_rules}
use Rattle.relayout_cli.proofs.SheetLemmas.{any-parsed}
use Rattle.relayout_cli.proofs.StyleLemmas.{IfOk-unbuilt, unbuilt-by-rules}
use Rattle.relayout_cli.proofs.styling.has_unbuilt_styles.Goals as goal

pub returns-then-any_unbuilt_rule : goal.returns-then-any_unbuilt_rule
returns-then-any_unbuilt_rule c =
    unbuilt-by-rules (page_view c.args.page.now)
    (sym (c.any_unbuilt_rule.ensures ∙ (ap (λ (sheets : List Sheet). list_any (list_any is_unbuilt_rule) (kept_rules sheets)) c.as_slice.ensures
    ∙ any-parsed (list_any is_unbuilt_rule) c.args.page.now.sheets c.args.page.now.parsed)) ∙ c.if-any_unbuilt_rule.true)

pub returns : goal.returns
returns c =
    IfOk-unbuilt c.any_unbuilt_attribute.result (page_view c.args.page.now) c.as_slice-2.result.now
    (sym (c.any_unbuilt_rule.ensures ∙ (ap (λ (sheets : List Sheet). list_any (list_any is_unbuilt_rule) (kept_rules sheets)) c.as_slice.ensures
    ∙ any-parsed (list_any is_unbuilt_rule) c.args.page.now.sheets c.args.page.now.parsed)) ∙ c.if-any_unbuilt_rule.false)
    (c.as_slice-2.ensures ∙ c.in_ok-ids.ensures.ids) c.any_unbuilt_attribute.ensures
