-- What was read and the items after it have the value of all.
use Rattle.std.proofs.Common.{◌≡◌, drop, option_and_then}
use Rattle.css_tokens.specs.Nested.{components_view}
use Rattle.value_model.specs.CalculationGrammar.{arguments_of, items_of, sum_of}
use Rattle.query_units.specs.inner.Calls.{call_after, function_view}
use Rattle.query_units.specs.inner.Sums.{sum_after}
use Rattle.query_units.proofs.reading.+calculations.Given as goal

abbrev pub invariant-read_call-loop-component : goal.invariant-read_call-loop-component
invariant-read_call-loop-component l =
    call_after l.call l.fn.f (items_of l.fn.percent (components_view (drop l.component-index l.contents)))
    ≡ option_and_then (function_view l.fn.f)
    (arguments_of (items_of l.fn.percent (components_view l.fn.contents)))

abbrev pub invariant-read_sum-loop-component : goal.invariant-read_sum-loop-component
invariant-read_sum-loop-component l =
    sum_after l.sum (items_of l.fn.percent (components_view (drop l.component-index l.contents)))
    ≡ sum_of (items_of l.fn.percent (components_view l.fn.contents))
