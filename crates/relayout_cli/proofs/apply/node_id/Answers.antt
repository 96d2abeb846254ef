use Rattle.std.proofs.Common.{refl, arith}
use Rattle.relayout_cli.proofs.NumberLemmas.{find-past}
use Rattle.relayout_cli.proofs.apply.node_id.Goals as goal

pub returns-else-number-next_id-clause-missing : goal.returns-else-number-next_id-clause-missing
returns-else-number-next_id-clause-missing c = (
  refl,
  find-past c.args.number c.args.document.now.document.next_id c.args.document.now.document.root c.next_id.ensures.facts.ids.1
      (omega (arith, c.next_id.ensures.value, c.if-number-next_id.false)),
)
