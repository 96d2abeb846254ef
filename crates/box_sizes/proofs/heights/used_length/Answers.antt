use Rattle.std.proofs.Common.{◌∙◌, ap, sym, Some}
use Rattle.flow_model.specs.UsedLengths.{used_in}
use Rattle.query_units.specs.Views.{computed_view}
use Rattle.box_sizes.proofs.HeightSteps.{determined}
use Rattle.box_sizes.proofs.heights.used_length.Goals as goal

pub returns-else-is_undetermined : goal.returns-else-is_undetermined
returns-else-is_undetermined c =
    ap Some (c.used_in.ensures ∙ ap (λ base. used_in base (computed_view c.args.l.now)) c.or_zero.ensures)
    ∙ determined c.args.around (computed_view c.args.l.now)
    (sym c.is_undetermined.ensures ∙ c.if-is_undetermined.false)
