use Rattle.std.proofs.Common.{◌≡◌, ◌++◌, drop}
use Rattle.custom_props.specs.Views.{values_view}
use Rattle.custom_props.specs.inner.Merging.{merged, named_entries}
use Rattle.custom_props.proofs.merging.merged.Given as goal

-- the values so far and the merged rest are all merged
abbrev pub invariant-loop-place : goal.invariant-loop-place
invariant-loop-place l =
    values_view l.new
    ++ merged (named_entries (values_view (drop l.place l.declared)) (drop l.place l.entries)) (values_view l.rest)
    ≡ merged (named_entries (values_view l.declared) l.entries) (values_view l.inherited)
