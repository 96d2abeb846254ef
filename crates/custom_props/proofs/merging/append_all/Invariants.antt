use Rattle.std.proofs.Common.{◌≡◌, ◌++◌, drop}
use Rattle.custom_props.specs.Views.{values_view}
use Rattle.custom_props.proofs.merging.append_all.Given as goal

-- the values so far and the rest are all
abbrev pub invariant-loop-value : goal.invariant-loop-value
invariant-loop-value l =
    values_view l.new ++ values_view (drop l.value-index l.values) ≡ values_view l.fn.new ++ values_view l.values
