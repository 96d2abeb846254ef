use Rattle.std.proofs.Common.{◌∙◌, ◌++◌, ◌+◌, ap, sym, drop, append_assoc}
use Rattle.css_tokens.specs.Nested.{component_view, components_view}
use Rattle.custom_model.specs.NamedValues.{names_of}
use Rattle.custom_model.specs.References.{vars_in}
use Rattle.custom_props.specs.Views.{values_view}
use Rattle.custom_props.specs.inner.Graphs.{places_in, places_of}
use Rattle.custom_props.proofs.Bridge.{places_cons}
use Rattle.custom_props.proofs.ComponentViews.{next_view}
use Rattle.custom_props.proofs.graphs.+places.Goals as goal

pub add_places-loop-c-preserved : goal.add_places-loop-c-preserved
add_places-loop-c-preserved t c =
    let names = names_of (values_view c.args.declared.now) in
    let rest = components_view (drop (c.loop-c.c-index + 1) c.args.components.now) in
    ap (λ l. l ++ places_of names rest) c.in_ok-add_places_of.ensures
    ∙ (append_assoc c.loop-c.places (places_in names (vars_in (component_view c.c-item.result))) (places_of names rest)
    ∙ (ap (λ l. c.loop-c.places ++ l) (sym (places_cons names (component_view c.c-item.result) rest))
    ∙ (ap (λ cs. c.loop-c.places ++ places_of names cs)
    (sym (next_view c.args.components.now c.loop-c.c-index c.c-item.result c.loop-c-test.true c.c-item.is))
    ∙ c.loop-c.invariant)))
