use Rattle.std.proofs.Common.{rules}
use Rattle.flow_model.specs.Widths.{row_for}
use Rattle.box_sizes.proofs.RowSteps.{row_for_least}
use Rattle.box_sizes.proofs.rows.row_from.Goals as goal

pub returns-then-get : goal.returns-then-get
returns-then-get c =
    row_for_least (row_for c.args.c.now c.args.pair.now c.args.b.now) c.args.least c.in-Some.least c.args.row.now c.row_for.result
    (search rules) (search rules) (search rules)
