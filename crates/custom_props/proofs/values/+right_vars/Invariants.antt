use Rattle.std.proofs.Common.{◌≡◌, drop}
use Rattle.css_tokens.specs.Nested.{components_view}
use Rattle.custom_model.specs.References.{has_right_vars}
use Rattle.custom_props.proofs.values.+right_vars.Given as goal

abbrev pub invariant-has_right_vars_in-loop-c : goal.invariant-has_right_vars_in-loop-c
invariant-has_right_vars_in-loop-c l =
    has_right_vars (components_view (drop l.c-index l.components)) ≡ has_right_vars (components_view l.components)
