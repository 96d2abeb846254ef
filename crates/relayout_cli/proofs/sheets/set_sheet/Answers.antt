use Rattle.std.proofs.Common.{◌∙◌, ap, sym, subst, arith}
use Rattle.relayout_cli.specs.Sheets.{texts_of, AreParsed}
use Rattle.relayout_cli.proofs.SheetLemmas.{texts-set, texts-push, parsed-set, parsed-push}
use Rattle.relayout_cli.proofs.sheets.set_sheet.Goals as goal

pub returns-then-at-len-clause-sheets : goal.returns-then-at-len-clause-sheets
returns-then-at-len-clause-sheets c = ap texts_of c.set.ensures ∙ texts-set c.args.sheets.now c.args.at c.args.sheet (omega (arith, c.if-at-len.true, c.len.ensures))

pub returns-then-at-len-clause-parsed : goal.returns-then-at-len-clause-parsed
returns-then-at-len-clause-parsed c =
    λ is parsed. subst AreParsed (sym c.set.ensures) (parsed-set c.args.sheets.now c.args.at c.args.sheet (omega (arith, c.if-at-len.true, c.len.ensures)) is parsed)

pub returns-clause-parsed : goal.returns-clause-parsed
returns-clause-parsed c = λ is parsed. subst AreParsed (sym c.in_ok-push.ensures.ok) (parsed-push c.args.sheets.now c.args.sheet is parsed)

pub returns-clause-sheets : goal.returns-clause-sheets
returns-clause-sheets c = ap texts_of c.in_ok-push.ensures.ok ∙ texts-push c.args.sheets.now c.args.at c.args.sheet (omega (arith, c.if-at-len.false, c.len.ensures, c.requires))

pub returns-in_err-push-clause-parsed : goal.returns-in_err-push-clause-parsed
returns-in_err-push-clause-parsed c = λ is parsed. subst AreParsed (sym c.in_err-push.ensures.err) parsed
