use Rattle.std.proofs.Common.{◌∙◌, ap, sym, subst}
use Rattle.relayout_cli.specs.Sheets.{texts_of, AreParsed}
use Rattle.relayout_cli.proofs.SheetLemmas.{texts-remove, parsed-remove}
use Rattle.relayout_cli.proofs.sheets.take_out_sheet.Goals as goal

pub returns-clause-sheets : goal.returns-clause-sheets
returns-clause-sheets c = ap texts_of c.remove.ensures.rest ∙ texts-remove c.args.sheets.now c.args.at

pub returns-clause-parsed : goal.returns-clause-parsed
returns-clause-parsed c = λ parsed. subst AreParsed (sym c.remove.ensures.rest) (parsed-remove c.args.sheets.now c.args.at parsed)
