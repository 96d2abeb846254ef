use Rattle.std.proofs.Common.{◌≡◌, rules}
use Rattle.std.specs.Int.{int_min, int_max}
use Rattle.value_model.specs.Calculations.{leaf_value, value_by}
use Rattle.query_units.specs.Views.{computed_view}
use Rattle.query_units.proofs.ListedSteps.{folded_step}
use Rattle.query_units.proofs.computed.+used.Goals as goal

pub greatest_used-loop-other-preserved : goal.greatest_used-loop-other-preserved
greatest_used-loop-other-preserved t c =
    let value : c.max-value.result
    ≡ int_max c.loop-other.value (value_by (leaf_value c.args.base) (computed_view c.other-item.result)) = search rules in
    folded_step computed_view (leaf_value c.args.base) int_max c.as_slice-other-items.result.now
    c.loop-other.other-index c.other-item.result c.loop-other.value c.max-value.result _
    c.loop-other-test.true c.other-item.is value c.loop-other.invariant

pub least_used-loop-other-preserved : goal.least_used-loop-other-preserved
least_used-loop-other-preserved t c =
    let value : c.min-value.result
    ≡ int_min c.loop-other.value (value_by (leaf_value c.args.base) (computed_view c.other-item.result)) = search rules in
    folded_step computed_view (leaf_value c.args.base) int_min c.as_slice-other-items.result.now
    c.loop-other.other-index c.other-item.result c.loop-other.value c.min-value.result _
    c.loop-other-test.true c.other-item.is value c.loop-other.invariant
