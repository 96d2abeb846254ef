use Rattle.std.proofs.Common.{rules, ◌≡◌, ◌∙◌, ap, option_map, Some}
use Rattle.std.specs.Str.{str_eq_ignore_ascii_case}
use Rattle.value_model.specs.Lengths.{unit}
use Rattle.value_parts.proofs.Tables.{lookup-map}
use Rattle.value_parts.proofs.units.find_unit.Goals as goal

pub returns-in_err-base : goal.returns-in_err-base
returns-in_err-base c =
    let none : c.from_residual.result ≡ option_map (λ row. unit row.0 row.1 row.2) c.find_word.result = search rules in
    none ∙ (ap (option_map (λ row. unit row.0 row.1 row.2)) c.find_word.ensures
    ∙ lookup-map (str_eq_ignore_ascii_case c.args.name.now) (λ row. row.0.now) (λ row. row.1) (λ row. unit row.0 row.1 row.2) c.args.table.now)

pub returns : goal.returns
returns c =
    let some : Some (unit c.in_ok-base.base c.in_ok-base.numerator c.in_ok-base.denominator) ≡ option_map (λ row. unit row.0 row.1 row.2) c.find_word.result = search rules in
    some ∙ (ap (option_map (λ row. unit row.0 row.1 row.2)) c.find_word.ensures
    ∙ lookup-map (str_eq_ignore_ascii_case c.args.name.now) (λ row. row.0.now) (λ row. row.1) (λ row. unit row.0 row.1 row.2) c.args.table.now)
