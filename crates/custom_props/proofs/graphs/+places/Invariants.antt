use Rattle.std.proofs.Common.{◌≡◌, ◌++◌, drop}
use Rattle.css_tokens.specs.Nested.{components_view}
use Rattle.custom_model.specs.NamedValues.{names_of}
use Rattle.custom_props.specs.Views.{values_view}
use Rattle.custom_props.specs.inner.Graphs.{places_of}
use Rattle.custom_props.proofs.graphs.+places.Given as goal

-- the places so far and those of the rest
abbrev pub invariant-add_places-loop-c : goal.invariant-add_places-loop-c
invariant-add_places-loop-c l =
    l.places ++ places_of (names_of (values_view l.declared)) (components_view (drop l.c-index l.components))
    ≡ l.fn.places ++ places_of (names_of (values_view l.declared)) (components_view l.components)
