use Rattle.std.proofs.Common.{◌≡◌, ◌∙◌, sym, ap, rules, [], option_map}
use Rattle.query_units.specs.inner.CalcValues.{calc_value_view, operator_view}
use Rattle.query_units.specs.inner.Sums.{after_sign, factor_after, joined_to, sum_after}
use Rattle.query_units.specs.declared.sums.Last.TheVariants.{White}
use Rattle.query_units.proofs.SumSteps.{sign_step, sign_unspaced}
use Rattle.query_units.proofs.sums.Sum.take_sign.Goals as goal

pub returns-then-ne : goal.returns-then-ne
unfolding sum_after
returns-then-ne c = λ items.
    let other : c.args.self.last ≡ White → ⊥ = search rules in
    c.invalid.ensures items
    ∙ sym (sign_unspaced c.args.self.terms c.args.self.product c.args.self.last c.args.operator c.requires other items)

pub returns : goal.returns
unfolding sum_after
returns c = λ items.
    let is_white : c.args.self.last ≡ White = search rules in
    let value : option_map calc_value_view c.in_ok-value.value ≡ joined_to c.args.self.terms (factor_after c.args.self.product []) = search rules in
    c.opened.ensures items
    ∙ (ap (λ v. after_sign v (operator_view c.args.operator) items) value
    ∙ sym (sign_step c.args.self.terms c.args.self.product c.args.self.last is_white c.args.operator c.requires items))
