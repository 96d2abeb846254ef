use Rattle.std.proofs.Common.{◌≡◌, ◌∙◌, sym, rules}
use Rattle.query_units.specs.inner.CalcValues.{operator_view}
use Rattle.query_units.specs.inner.Sums.{sum_after}
use Rattle.query_units.specs.declared.sums.Last.TheVariants.{Sign}
use Rattle.query_units.proofs.SumSteps.{factor_step, operator_after_sign}
use Rattle.query_units.proofs.sums.Sum.take_factor.Goals as goal

pub returns-then-eq : goal.returns-then-eq
unfolding sum_after
returns-then-eq c = λ items.
    let is_sign : c.args.self.last ≡ Sign = search rules in
    c.invalid.ensures items
    ∙ sym (operator_after_sign c.args.self.terms c.args.self.product c.args.self.last is_sign (operator_view c.args.operator) items)

pub returns : goal.returns
unfolding sum_after
returns c = λ items.
    let other : c.args.self.last ≡ Sign → ⊥ = search rules in
    factor_step c.args.self.terms c.args.self.product c.take_operator.result c.args.self.last c.args.operator c.requires other c.take_operator.ensures items
