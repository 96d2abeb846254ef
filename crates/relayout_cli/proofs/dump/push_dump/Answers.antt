use Rattle.relayout_cli.specs.Pages.{page_view}
use Rattle.relayout_cli.proofs.DumpLemmas.{OnOk-dump}
use Rattle.relayout_cli.proofs.dump.push_dump.Goals as goal

pub returns : goal.returns
returns c = record {
  dump = OnOk-dump c.push_ok.result _ _ _ (page_view c.args.page.now) _ c.root.result c.push_ok.ensures.line c.in_ok-push_boxes.ensures c.requires.empty c.root.ensures.value c.root.ensures.facts.ids.0 c.units_of-width.ensures;
}
