use Rattle.std.proofs.Common.{arith}
use Rattle.relayout_cli.proofs.NumberLemmas.{find-past}
use Rattle.relayout_cli.proofs.StyleLemmas.{no-node}
use Rattle.relayout_cli.proofs.styling.element_id.Goals as goal

pub returns-then-id-next_id-clause-refused : goal.returns-then-id-next_id-clause-refused
returns-then-id-next_id-clause-refused c =
    no-node c.args.id c.args.doc.now.document.root
    (find-past c.args.id c.args.doc.now.document.next_id c.args.doc.now.document.root c.next_id.ensures.facts.ids.1
    (omega (arith, c.next_id.ensures.value, c.if-id-next_id.true)))
