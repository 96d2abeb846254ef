use Rattle.std.proofs.Common.{rules}
use Rattle.box_sizes.proofs.RowSteps.{row_for_width}
use Rattle.box_sizes.proofs.rows.row_of_width.Goals as goal

pub returns : goal.returns
returns c =
    row_for_width c.args.around c.args.b.now c.args.width c.margins_of_width-margins.result c.wide.result c.row_with.result
    (search rules) (search rules) (search rules)
