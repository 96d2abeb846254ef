use Rattle.std.proofs.Common.{rules}
use Rattle.box_sizes.proofs.RowSteps.{row_for_auto_width}
use Rattle.box_sizes.proofs.rows.row_of_auto_width.Goals as goal

pub returns : goal.returns
returns c =
    row_for_auto_width c.args.around c.args.b.now c.wide.result c.at_least_zero-width.result c.right_of_auto_width.result c.row_with.result
    (search rules) (search rules) (search rules) (search rules)
