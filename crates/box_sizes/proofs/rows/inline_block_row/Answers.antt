use Rattle.std.proofs.Common.{rules}
use Rattle.box_sizes.proofs.RowSteps.{row_for_inline_block}
use Rattle.box_sizes.proofs.rows.inline_block_row.Goals as goal

pub returns : goal.returns
returns c =
    row_for_inline_block c.args.around c.args.pair.now c.args.b.now c.args.width c.wide.result c.inline_block_width.result c.wide-2.result
    c.row_with.result (search rules) (search rules) (search rules) (search rules)
