use Rattle.std.proofs.Common.{◌≡◌, ◌∙◌, rules, [], Some, None}
use Rattle.query_units.specs.inner.CalcValues.{calc_value_view}
use Rattle.query_units.specs.inner.Calls.{call_after}
use Rattle.query_units.specs.inner.Sums.{sum_after}
use Rattle.query_units.proofs.CallSteps.{comma_step, comma_invalid}
use Rattle.query_units.proofs.calls.Call.take_comma.Goals as goal

pub returns-in_ok-arguments-in-Some : goal.returns-in_ok-arguments-in-Some
unfolding call_after
returns-in_ok-arguments-in-Some c = λ f items.
    let last : sum_after c.args.self.sum [] ≡ Some (calc_value_view c.in-Some.v) = search rules in
    comma_step c.args.self.arguments c.in_ok-arguments-in-Some.arguments c.args.self.sum c.new-sum.result (calc_value_view c.in-Some.v) last c.new-sum.ensures c.in_ok-arguments-in-Some.ensures f items

pub returns-in-None : goal.returns-in-None
unfolding call_after
returns-in-None c = λ f items.
    let last : sum_after c.args.self.sum [] ≡ None = search rules in
    c.invalid.ensures f items ∙ comma_invalid c.args.self.arguments c.args.self.sum last f items
