use Rattle.std.proofs.Common.{◌≡◌, ◌++◌, drop}
use Rattle.std.specs.Str.{chars}
use Rattle.custom_props.specs.Views.{values_view}
use Rattle.custom_props.specs.inner.Merging.{after, before}
use Rattle.custom_props.proofs.merging.append_before.Given as goal

-- what is before and after the name in the rest is so in all
abbrev pub invariant-loop-place : goal.invariant-loop-place
invariant-loop-place l = record {
  appended : values_view l.new ++ before (chars l.name) (values_view (drop l.place l.values))
      ≡ values_view l.fn.new ++ before (chars l.name) (values_view l.values);
  rest : after (chars l.name) (values_view (drop l.place l.values)) ≡ after (chars l.name) (values_view l.values);
}
