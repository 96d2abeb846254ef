use Rattle.std.proofs.Common.{◌≡◌, ◌∙◌, ap, List, subst, IfOk}
use Rattle.value_model.specs.Shorthands.{Longhand}
use Rattle.prop_table.specs.Views.{pairs_view}
use Rattle.prop_table.specs.inner.BorderViews.{parts_view, side_values}
use Rattle.prop_table.specs.inner.ShorthandViews.{borders_view}
use Rattle.prop_table.proofs.BorderSides.{side_values-complete}
use Rattle.prop_table.proofs.borders.values_of_parts.Goals as goal

pub returns : goal.returns
returns c =
    let sides = borders_view c.args.sides.now in
    subst (λ (want : List Longhand). IfOk c.border_values.result (λ ps. pairs_view ps ≡ want))
    (ap (side_values sides) c.completed-values.ensures ∙ side_values-complete sides (parts_view c.args.parts)) c.border_values.ensures
