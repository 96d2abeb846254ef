use Rattle.std.proofs.Common.{◌∙◌, ap, sym, Some}
use Rattle.css_tokens.specs.Nested.{components_view}
use Rattle.custom_props.specs.Views.{values_view}
use Rattle.custom_props.specs.inner.Places.{place_of}
use Rattle.custom_model.specs.NamedValues.{names_of}
use Rattle.custom_props.proofs.EntriesByPlace.{value-at, value-none, got}
use Rattle.custom_props.proofs.entries.value_named.Goals as goal

pub returns-in-None : goal.returns-in-None
returns-in-None c =
    value-none c.args.values.now c.args.name.now
    (sym c.in-None.is ∙ (c.place_of.ensures.place
    ∙ ap (λ n. place_of n (names_of (values_view c.args.values.now))) c.as_str.ensures.characters))

pub returns-in-Some : goal.returns-in-Some
returns-in-Some c =
    ap (λ cs. Some (components_view cs)) c.deref.ensures
    ∙ value-at c.args.values.now c.args.name.now c.in-Some.place _
    (sym c.in-Some.is ∙ (c.place_of.ensures.place
    ∙ ap (λ n. place_of n (names_of (values_view c.args.values.now))) c.as_str.ensures.characters))
    (got c.args.values.now c.in-Some.place c.index-values-place.result c.in-Some.ensures.within)
