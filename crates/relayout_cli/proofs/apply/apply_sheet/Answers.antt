use Rattle.relayout_cli.proofs.SheetLemmas.{within-after}
use Rattle.relayout_cli.proofs.apply.apply_sheet.Goals as goal

pub invariant_of-page : goal.invariant_of-page
invariant_of-page c = record {
  narrow = c.args.page.now.narrow;
  low = c.args.page.now.low;
  parsed = c.change_sheets.ensures.parsed c.args.page.now.parsed;
  within = within-after c.change_sheets.result c.args.at c.args.css c.args.page.now.sheets c.change_sheets.new.sheets c.change_sheets.ensures.sheets
      c.change_sheets.ensures.allowed c.change_sheets.ensures.kept c.args.page.now.within;
}
