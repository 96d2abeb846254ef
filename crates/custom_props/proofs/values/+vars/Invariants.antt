use Rattle.std.proofs.Common.{◌≡◌, drop}
use Rattle.css_tokens.specs.Nested.{components_view}
use Rattle.custom_model.specs.References.{has_var}
use Rattle.custom_props.proofs.values.+vars.Given as goal

abbrev pub invariant-has_var_in-loop-c : goal.invariant-has_var_in-loop-c
invariant-has_var_in-loop-c l =
    has_var (components_view (drop l.c-index l.components)) ≡ has_var (components_view l.components)
