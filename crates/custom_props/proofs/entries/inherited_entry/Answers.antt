use Rattle.std.proofs.Common.{◌≡◌, ◌∙◌, ap, sym, subst, IfOk, Option, Some}
use Rattle.css_model.specs.Components.{Components}
use Rattle.custom_model.specs.NamedValues.{names_of}
use Rattle.custom_props.specs.Views.{value_view, values_view}
use Rattle.custom_props.specs.inner.EntryViews.{entry_view}
use Rattle.custom_props.specs.inner.Places.{place_of}
use Rattle.custom_props.specs.declared.named_value.NamedValue.{NamedValue}
use Rattle.custom_props.proofs.EntriesByPlace.{value-at, value-none, got}
use Rattle.custom_props.proofs.entries.inherited_entry.Goals as goal

pub returns-in-None : goal.returns-in-None
returns-in-None c =
    value-none c.args.values.now c.args.name.now
    (sym c.in-None.is ∙ (c.place_of.ensures.place
    ∙ ap (λ n. place_of n (names_of (values_view c.args.values.now))) c.as_str.ensures.characters))

pub returns-in-Some : goal.returns-in-Some
returns-in-Some c =
    subst (λ (o : Option Components). IfOk c.entry_with.result (λ e. entry_view e ≡ o))
    (value-at c.args.values.now c.args.name.now c.in-Some.place _
    (sym c.in-Some.is ∙ (c.place_of.ensures.place
    ∙ ap (λ n. place_of n (names_of (values_view c.args.values.now))) c.as_str.ensures.characters))
    (got c.args.values.now c.in-Some.place c.index-values-place.result c.in-Some.ensures.within))
    (subst (λ (v : NamedValue). IfOk c.entry_with.result (λ e. entry_view e ≡ Some (value_view v).1))
    c.index-values-place.is c.entry_with.ensures)
