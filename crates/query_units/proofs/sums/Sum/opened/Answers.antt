use Rattle.std.proofs.Common.{◌∙◌, sym, ap, option_map}
use Rattle.query_units.specs.inner.CalcValues.{calc_value_view, operator_view}
use Rattle.query_units.specs.inner.Sums.{after_sign}
use Rattle.query_units.proofs.SumSteps.{opened_sum, opened_none}
use Rattle.query_units.proofs.sums.Sum.opened.Goals as goal

pub returns-in-Some : goal.returns-in-Some
returns-in-Some c = λ items.
    opened_sum c.in-Some.value c.args.operator items
    ∙ ap (λ v. after_sign (option_map calc_value_view v) (operator_view c.args.operator) items) (sym c.in-Some.is)

pub returns-in-None : goal.returns-in-None
returns-in-None c = λ items.
    c.invalid.ensures items
    ∙ (sym (opened_none (operator_view c.args.operator) items)
    ∙ ap (λ v. after_sign (option_map calc_value_view v) (operator_view c.args.operator) items) (sym c.in-None.is))
