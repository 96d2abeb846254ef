use Rattle.std.proofs.Common.{◌≡◌, drop}
use Rattle.css_tokens.specs.Nested.{components_view}
use Rattle.custom_model.specs.References.{have_no_bad_token}
use Rattle.custom_props.proofs.values.+bad_tokens.Given as goal

abbrev pub invariant-have_no_bad_token-loop-c : goal.invariant-have_no_bad_token-loop-c
invariant-have_no_bad_token-loop-c l =
    have_no_bad_token (components_view (drop l.c-index l.components)) ≡ have_no_bad_token (components_view l.components)
