use Rattle.std.proofs.Common.{◌∙◌, ap, option_map}
use Rattle.std.specs.Str.{str_eq_ignore_ascii_case}
use Rattle.query_units.specs.inner.Calls.{function_view}
use Rattle.query_units.proofs.Tables.{lookup-map}
use Rattle.query_units.proofs.functions.find_function.Goals as goal

pub returns : goal.returns
returns c =
    ap (option_map function_view) c.find_word.ensures
    ∙ lookup-map (str_eq_ignore_ascii_case c.args.name.now) (λ row. row.0.now) (λ row. row.1) function_view c.args.table.now
