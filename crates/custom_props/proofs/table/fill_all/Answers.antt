use Rattle.std.proofs.Common.{get_or}
use Rattle.custom_props.specs.EnvView.{env_view}
use Rattle.custom_props.proofs.FilledTables.{filling_next}
use Rattle.custom_props.proofs.Marking.{take_at}
use Rattle.custom_props.proofs.table.fill_all.Goals as goal

pub loop-index-preserved : goal.loop-index-preserved
loop-index-preserved c =
    filling_next (record { declared = env_view c.args.declared.now; inherited = env_view c.args.inherited.now })
    c.args.graph.now c.args.order.now c.loop-index.index (get_or c.args.order.now c.loop-index.index 0) c.loop-index.table
    c.fill.new.table c.requires.graph c.requires.order (take_at c.args.order.now c.loop-index.index 0 c.loop-index-test.true)
    c.loop-index.invariant c.in_ok-fill.ensures
