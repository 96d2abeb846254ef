use Rattle.std.proofs.Common.{◌≡◌, sym, subst, rules}
use Rattle.custom_props.specs.EnvView.{env_view}
use Rattle.custom_props.specs.inner.Graphs.{Graph, IsOrder, IsWithin, graph_of}
use Rattle.custom_props.specs.inner.Tables.{IsFilling}
use Rattle.custom_props.proofs.Bridge.{graph-within}
use Rattle.custom_props.proofs.FilledTables.{filling_start, table_filled}
use Rattle.custom_props.proofs.table.entries_of_declared.Goals as goal

pub order_of-requires : goal.order_of-requires
order_of-requires c =
    let graph : c.as_slice-2.result.now ≡ graph_of (env_view c.args.declared.now) = search rules in
    subst (λ (h : Graph). IsWithin h) (sym graph) (graph-within (env_view c.args.declared.now))

pub fill_all-requires-clause-filling : goal.fill_all-requires-clause-filling
fill_all-requires-clause-filling c =
    filling_start (record { declared = env_view c.args.declared.now; inherited = env_view c.args.inherited.now })
    c.in_ok-table.table c.in_ok-table.ensures.entries c.in_ok-table.ensures.marks

pub returns : goal.returns
returns c =
    let graph : c.in_ok-graph.graph ≡ graph_of (env_view c.args.declared.now) = search rules in
    let order : IsOrder c.in_ok-graph.graph c.in_ok-order.order = search rules in
    let filling : IsFilling (record { declared = env_view c.args.declared.now; inherited = env_view c.args.inherited.now })
    c.in_ok-order.order c.fill_all.new.table = search rules in
    table_filled (record { declared = env_view c.args.declared.now; inherited = env_view c.args.inherited.now })
    c.in_ok-graph.graph c.in_ok-order.order c.fill_all.new.table graph order filling
