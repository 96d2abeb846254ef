use Rattle.std.proofs.Common.{◌≡◌, ◌∙◌, rules, [], Some, None, option_map}
use Rattle.query_units.specs.inner.CalcValues.{calc_value_view}
use Rattle.query_units.specs.inner.Calls.{call_after, call_with}
use Rattle.query_units.specs.inner.Sums.{sum_after}
use Rattle.query_units.proofs.CallSteps.{call_ends, call_ends_invalid}
use Rattle.query_units.proofs.calls.Call.finish.Goals as goal

pub returns-in_ok-value-in-Some : goal.returns-in_ok-value-in-Some
unfolding call_after
returns-in_ok-value-in-Some c =
    let last : sum_after c.args.self.sum [] ≡ Some (calc_value_view c.in-Some.v) = search rules in
    let value : option_map calc_value_view c.in_ok-value-in-Some.value ≡ call_with c.in_ok-arguments-in-Some.arguments c.args.f [] = search rules in
    value ∙ call_ends c.args.self.arguments c.in_ok-arguments-in-Some.arguments c.args.self.sum (calc_value_view c.in-Some.v) last c.in_ok-arguments-in-Some.ensures c.args.f

pub returns-in-None : goal.returns-in-None
unfolding call_after
returns-in-None c =
    let last : sum_after c.args.self.sum [] ≡ None = search rules in
    call_ends_invalid c.args.self.arguments c.args.self.sum last c.args.f
