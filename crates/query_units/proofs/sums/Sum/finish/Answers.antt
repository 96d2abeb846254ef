use Rattle.std.proofs.Common.{◌≡◌, ◌∙◌, sym, rules, [], option_map}
use Rattle.query_units.specs.inner.CalcValues.{calc_value_view}
use Rattle.query_units.specs.inner.Sums.{factor_after, joined_to, sum_after}
use Rattle.query_units.specs.declared.sums.Last.TheVariants.{Sign}
use Rattle.query_units.proofs.SumSteps.{sum_ends, sign_ends}
use Rattle.query_units.proofs.sums.Sum.finish.Goals as goal

pub returns-then-eq : goal.returns-then-eq
unfolding sum_after
returns-then-eq c =
    let is_sign : c.args.self.last ≡ Sign = search rules in
    sym (sign_ends c.args.self.terms c.args.self.product c.args.self.last is_sign)

pub returns : goal.returns
unfolding sum_after
returns c =
    let other : c.args.self.last ≡ Sign → ⊥ = search rules in
    let value : option_map calc_value_view c.in_ok-value.value ≡ joined_to c.args.self.terms (factor_after c.args.self.product []) = search rules in
    value ∙ sym (sum_ends c.args.self.terms c.args.self.product c.args.self.last other)
