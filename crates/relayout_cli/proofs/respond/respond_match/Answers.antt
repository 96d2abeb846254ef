use Rattle.std.proofs.Common.{◌∙◌, ap, sym, option_map}
use Rattle.selectors.specs.Views.{list_view}
use Rattle.relayout_cli.specs.Pages.{page_view}
use Rattle.relayout_cli.proofs.ResponseLemmas.{OnOk-some_list, OnOk-no_list}
use Rattle.relayout_cli.proofs.respond.respond_match.Goals as goal

pub returns-in-Some : goal.returns-in-Some
returns-in-Some c =
    OnOk-some_list c.push_matches.result (page_view c.args.page.now) c.args.selector.now (list_view c.in-Some.list) _ _ c.push_matches.ensures c.requires.empty
    (sym (ap (option_map list_view) c.in-Some.is) ∙ c.in_ok-list.ensures)

pub returns-in-None : goal.returns-in-None
returns-in-None c =
    OnOk-no_list c.push_error.result (page_view c.args.page.now) c.args.selector.now _ _ c.push_error.ensures.line c.requires.empty
    (sym (ap (option_map list_view) c.in-None.is) ∙ c.in_ok-list.ensures)
