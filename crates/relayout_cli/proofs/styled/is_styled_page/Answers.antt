use Rattle.std.proofs.Common.{◌∙◌, ap, sym, List, ℕ}
use Rattle.std.specs.List.{list_any}
use Rattle.css_rules.specs.declared.sheet.Sheet.{Sheet}
use Rattle.request_model.specs.States.{is_styled}
use Rattle.relayout_cli.specs.Pages.{page_view}
use Rattle.relayout_cli.specs.Sheets.{has_rules, kept_rules}
use Rattle.relayout_cli.proofs.SheetLemmas.{any-parsed}
use Rattle.relayout_cli.proofs.IsStyled.{page-by-rules, page-by-elements}
use Rattle.relayout_cli.proofs.styled.is_styled_page.Goals as goal

pub returns-then-any_has_rules : goal.returns-then-any_has_rules
returns-then-any_has_rules c =
    page-by-rules (page_view c.args.page.now)
    (sym (c.any_has_rules.ensures ∙ (ap (λ (sheets : List Sheet). list_any has_rules (kept_rules sheets)) c.as_slice.ensures ∙ any-parsed has_rules c.args.page.now.sheets c.args.page.now.parsed)) ∙ c.if-any_has_rules.true)

pub returns : goal.returns
returns c =
    page-by-elements (page_view c.args.page.now) c.any_is_styled.result
    (sym (c.any_has_rules.ensures ∙ (ap (λ (sheets : List Sheet). list_any has_rules (kept_rules sheets)) c.as_slice.ensures ∙ any-parsed has_rules c.args.page.now.sheets c.args.page.now.parsed)) ∙ c.if-any_has_rules.false)
    (c.any_is_styled.ensures ∙ ap (λ (ids : List ℕ). list_any (is_styled c.args.page.now.document.document.root) ids) (c.as_slice-2.ensures ∙ c.in_ok-ids.ensures.ids))
