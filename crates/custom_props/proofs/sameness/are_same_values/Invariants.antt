use Rattle.std.proofs.Common.{◌≡◌, drop}
use Rattle.custom_props.specs.Views.{values_view}
use Rattle.custom_props.proofs.sameness.are_same_values.Given as goal

-- if the rest is the same, all are
abbrev pub invariant-loop-place : goal.invariant-loop-place
invariant-loop-place l =
    values_view (drop l.place l.a) ≡ values_view (drop l.place l.b) → values_view l.a ≡ values_view l.b
