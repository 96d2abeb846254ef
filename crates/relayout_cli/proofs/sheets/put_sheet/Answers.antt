use Rattle.relayout_cli.proofs.sheets.put_sheet.Goals as goal

pub returns-clause-parsed : goal.returns-clause-parsed
returns-clause-parsed c = λ parsed. c.set_sheet.ensures.parsed c.in_ok-sheet.ensures.parsed parsed
