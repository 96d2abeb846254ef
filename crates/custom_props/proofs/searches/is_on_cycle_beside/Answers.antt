use Rattle.std.proofs.Common.{◌∙◌, ap, sym}
use Rattle.std.specs.List.{list_all}
use Rattle.std.proofs.lemmas.Bool.{false≢true}
use Rattle.custom_props.specs.inner.Graphs.{is_marked}
use Rattle.custom_props.proofs.FilledTables.{off_by_successors}
use Rattle.custom_props.proofs.searches.is_on_cycle_beside.Goals as goal

pub returns-then-are_marked : goal.returns-then-are_marked
returns-then-are_marked c = (
  (λ f. absurd (false≢true f)),
  (λ l. absurd (off_by_successors c.args.graph.now c.args.off_cycles.now c.args.start c.requires.off_cycles
      (ap (list_all (is_marked c.args.off_cycles.now)) (sym c.successors.ensures)
      ∙ (sym c.are_marked.ensures ∙ c.if-are_marked.true)) l)),
)
