use Rattle.std.proofs.Common.{◌≡◌, drop}
use Rattle.css_tokens.specs.Nested.{components_view}
use Rattle.custom_model.specs.References.{have_no_semicolon_or_exclamation}
use Rattle.custom_props.proofs.values.have_no_semicolon_or_exclamation.Given as goal

abbrev pub invariant-loop-c : goal.invariant-loop-c
invariant-loop-c l =
    have_no_semicolon_or_exclamation (components_view (drop l.c-index l.components))
    ≡ have_no_semicolon_or_exclamation (components_view l.components)
