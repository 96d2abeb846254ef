use Rattle.std.proofs.Common.{◌≡◌, rules}
use Rattle.std.specs.Int.{int_min, int_max}
use Rattle.value_model.specs.Calculations.{literal_value, value_by}
use Rattle.query_units.specs.Views.{length_view}
use Rattle.query_units.proofs.ListedSteps.{folded_step}
use Rattle.query_units.proofs.length.+values.Goals as goal

pub greatest-loop-other-preserved : goal.greatest-loop-other-preserved
greatest-loop-other-preserved t c =
    let value : c.max-value.result
    ≡ int_max c.loop-other.value (value_by (literal_value c.args.b.now c.args.base) (length_view c.other-item.result)) = search rules in
    folded_step length_view (literal_value c.args.b.now c.args.base) int_max c.as_slice-other-items.result.now
    c.loop-other.other-index c.other-item.result c.loop-other.value c.max-value.result _
    c.loop-other-test.true c.other-item.is value c.loop-other.invariant

pub least-loop-other-preserved : goal.least-loop-other-preserved
least-loop-other-preserved t c =
    let value : c.min-value.result
    ≡ int_min c.loop-other.value (value_by (literal_value c.args.b.now c.args.base) (length_view c.other-item.result)) = search rules in
    folded_step length_view (literal_value c.args.b.now c.args.base) int_min c.as_slice-other-items.result.now
    c.loop-other.other-index c.other-item.result c.loop-other.value c.min-value.result _
    c.loop-other-test.true c.other-item.is value c.loop-other.invariant
