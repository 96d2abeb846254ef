use Rattle.std.proofs.Common.{◌∙◌, ap, option_map}
use Rattle.std.specs.Str.{str_eq_ignore_ascii_case}
use Rattle.prop_table.specs.inner.ShorthandViews.{shorthand_view}
use Rattle.value_parts.proofs.Tables.{lookup-map}
use Rattle.prop_table.proofs.shorthand.find_shorthand.Goals as goal

pub returns : goal.returns
returns c =
    ap (option_map shorthand_view) c.find_word.ensures
    ∙ lookup-map (str_eq_ignore_ascii_case c.args.name.now) (λ row. row.0.now) (λ row. row.1) shorthand_view c.args.table.now
