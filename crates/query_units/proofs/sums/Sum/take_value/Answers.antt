use Rattle.std.proofs.Common.{◌≡◌, ◌∙◌, sym, rules, Some}
use Rattle.query_units.specs.inner.CalcValues.{calc_value_view}
use Rattle.query_units.specs.inner.Sums.{sum_after}
use Rattle.query_units.specs.declared.sums.Last.TheVariants.{Sign}
use Rattle.query_units.proofs.SumSteps.{value_step, value_after_sign}
use Rattle.query_units.proofs.sums.Sum.take_value.Goals as goal

pub returns-then-eq : goal.returns-then-eq
unfolding sum_after
returns-then-eq c = λ items.
    let is_sign : c.args.self.last ≡ Sign = search rules in
    c.invalid.ensures items
    ∙ sym (value_after_sign c.args.self.terms c.args.self.product c.args.self.last is_sign (Some (calc_value_view c.args.v)) items)

pub returns : goal.returns
unfolding sum_after
returns c = λ items.
    let other : c.args.self.last ≡ Sign → ⊥ = search rules in
    value_step c.args.self.terms c.args.self.product c.in_ok-product.product c.args.self.last (Some (calc_value_view c.args.v)) other c.in_ok-product.ensures items
