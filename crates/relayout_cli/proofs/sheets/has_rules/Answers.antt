use Rattle.css_rules.specs.Views.{condition_lists, rule_view}
use Rattle.relayout_cli.proofs.SheetLemmas.{has-mapped}
use Rattle.relayout_cli.proofs.sheets.has_rules.Goals as goal

pub returns : goal.returns
returns c = rw (c.is_empty.ensures, c.as_slice.ensures) (has-mapped (rule_view (condition_lists c.args.sheet.now.conditions)) c.args.sheet.now.rules)
