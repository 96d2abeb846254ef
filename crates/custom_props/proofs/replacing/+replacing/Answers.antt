use Rattle.std.proofs.Common.{◌≡◌, ◌∙◌, ◌+◌, ap, sym, subst, rules, drop, true, IfOk, Option, Some, None, option_map}
use Rattle.std.specs.Option.{option_copied}
use Rattle.css_model.specs.Components.{Components}
use Rattle.custom_props.specs.inner.Reading.{appended}
use Rattle.css_model.specs.inner.Nesting.{followed}
use Rattle.css_tokens.specs.Nested.{component_view, components_view}
use Rattle.custom_model.specs.Substitution.{replacement_of, replacement_of_all}
use Rattle.custom_props.specs.inner.Entries.{entries_of}
use Rattle.custom_props.proofs.ComponentViews.{end_view, next_view}
use Rattle.custom_props.proofs.Replacements.{appended_all, appended_more, var_by_fallback}
use Rattle.custom_props.proofs.replacing.+replacing.Goals as goal

pub append_from-returns : goal.append_from-returns
append_from-returns t c =
    appended_all (components_view c.loop-place.new)
    ∙ (ap (λ cs. option_map (followed (components_view c.loop-place.new)) (replacement_of_all (entries_of c.args.known.now) cs))
    (sym (end_view c.args.components.now c.loop-place.place c.loop-place-test.false))
    ∙ c.loop-place.invariant)

pub append_from-loop-place-preserved : goal.append_from-loop-place-preserved
append_from-loop-place-preserved t c =
    let found : c.in_ok-append_one.field-0 ≡ true = search rules in
    appended_more (components_view c.loop-place.new) (components_view c.append_one.new.new)
    (replacement_of (entries_of c.args.known.now) (component_view c.index-components-place.result))
    (replacement_of_all (entries_of c.args.known.now) (components_view (drop (c.loop-place.place + 1) c.args.components.now)))
    (ap (λ b. appended b (components_view c.append_one.new.new)) (sym found) ∙ c.in_ok-append_one.ensures)
    ∙ (ap (λ cs. option_map (followed (components_view c.loop-place.new)) (replacement_of_all (entries_of c.args.known.now) cs))
    (sym (next_view c.args.components.now c.loop-place.place c.index-components-place.result c.loop-place-test.true c.index-components-place.is))
    ∙ c.loop-place.invariant)

pub append_var-returns-in-Some-place_after_comma : goal.append_var-returns-in-Some-place_after_comma
append_var-returns-in-Some-place_after_comma t c =
    subst (λ (o : Option Components). IfOk c.append_from.result (λ found. appended found (components_view c.append_from.new.new)
    ≡ option_map (followed (components_view c.args.new.now)) o))
    (sym (var_by_fallback (entries_of c.args.known.now) (components_view c.args.contents.now)
    (Some (components_view (drop c.in-Some-place_after_comma.place c.args.contents.now)))
    (ap (λ o. option_map components_view (option_copied o)) (sym c.in-None.is) ∙ c.entry_in.ensures)
    (ap (option_map (λ p. components_view (drop p c.args.contents.now))) (sym c.in-Some-place_after_comma.is)
    ∙ c.place_after_comma.ensures.after)))
    c.append_from.ensures

pub append_var-returns-in-None-place_after_comma : goal.append_var-returns-in-None-place_after_comma
append_var-returns-in-None-place_after_comma t c =
    ap (option_map (followed (components_view c.args.new.now)))
    (sym (var_by_fallback (entries_of c.args.known.now) (components_view c.args.contents.now) None
    (ap (λ o. option_map components_view (option_copied o)) (sym c.in-None.is) ∙ c.entry_in.ensures)
    (ap (option_map (λ p. components_view (drop p c.args.contents.now))) (sym c.in-None-place_after_comma.is)
    ∙ c.place_after_comma.ensures.after)))
