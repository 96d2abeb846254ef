use Rattle.std.proofs.Common.{◌∙◌, ◌-◌, ◌+◌, ap, sym, drop, Some, None, option_map, option_and_then}
use Rattle.std.specs.Option.{option_copied}
use Rattle.css_tokens.specs.Nested.{component_view, components_view}
use Rattle.custom_props.specs.inner.Entries.{entries_of}
use Rattle.custom_props.specs.inner.Measures.{room_after_all}
use Rattle.custom_props.specs.inner.Rooms.{room_after, room_in}
use Rattle.custom_props.proofs.ComponentViews.{end_view, next_view, view_block, view_function, view_one}
use Rattle.custom_props.proofs.Replacements.{var_by_fallback}
use Rattle.custom_props.proofs.RoomSteps.{all_ends, all_goes, all_stops, replaced_block, replaced_function, replaced_token}
use Rattle.custom_props.proofs.measuring.+measuring.Goals as goal

pub room_after_from-returns-in-None : goal.room_after_from-returns-in-None
room_after_from-returns-in-None t c =
    all_stops (entries_of c.args.known.now) c.args.levels c.args.tokens c.loop-place.left
    (components_view (drop c.args.start c.args.components.now))
    (components_view (drop c.loop-place.place c.args.components.now))
    (components_view (drop (c.loop-place.place + 1) c.args.components.now)) (component_view c.index-components-place.result)
    c.loop-place.invariant
    (next_view c.args.components.now c.loop-place.place c.index-components-place.result c.loop-place-test.true c.index-components-place.is)
    (sym c.in-None.is ∙ c.room_after_replaced.ensures)

pub room_after_from-loop-place-preserved : goal.room_after_from-loop-place-preserved
room_after_from-loop-place-preserved t c =
    all_goes (entries_of c.args.known.now) c.args.levels c.args.tokens c.loop-place.left c.in-Some.room
    (components_view (drop c.args.start c.args.components.now))
    (components_view (drop c.loop-place.place c.args.components.now))
    (components_view (drop (c.loop-place.place + 1) c.args.components.now)) (component_view c.index-components-place.result)
    c.loop-place.invariant
    (next_view c.args.components.now c.loop-place.place c.index-components-place.result c.loop-place-test.true c.index-components-place.is)
    (sym c.in-Some.is ∙ c.room_after_replaced.ensures)

pub room_after_from-returns : goal.room_after_from-returns
room_after_from-returns t c =
    all_ends (entries_of c.args.known.now) c.args.levels c.args.tokens c.loop-place.left
    (components_view (drop c.args.start c.args.components.now))
    (components_view (drop c.loop-place.place c.args.components.now)) c.loop-place.invariant
    (end_view c.args.components.now c.loop-place.place c.loop-place-test.false)

pub room_after_replaced-returns-in-One : goal.room_after_replaced-returns-in-One
room_after_replaced-returns-in-One t c =
    c.room_after_token.ensures
    ∙ replaced_token (entries_of c.args.known.now) c.args.tokens c.args.levels (component_view c.args.c.now) c.in-One.field-0
    (view_one c.args.c.now c.in-One.field-0 c.in-One.is)

pub room_after_replaced-returns-in-Block : goal.room_after_replaced-returns-in-Block
room_after_replaced-returns-in-Block t c =
    c.room_after_pair.ensures
    ∙ (ap (λ cs. option_and_then (λ u. room_after_all (entries_of c.args.known.now) u (c.args.levels - 1) (components_view cs))
    (room_in c.in-Block.close c.args.tokens c.args.levels)) c.as_slice.ensures
    ∙ replaced_block (entries_of c.args.known.now) c.args.tokens c.args.levels (component_view c.args.c.now) c.in-Block.field-0
    (components_view c.in-Block.contents) c.in-Block.close
    (view_block c.args.c.now c.in-Block.field-0 c.in-Block.contents c.in-Block.close c.in-Block.is))

pub room_after_replaced-returns-else-is_var_type : goal.room_after_replaced-returns-else-is_var_type
room_after_replaced-returns-else-is_var_type t c =
    c.room_after_pair-else-is_var_type.ensures
    ∙ (ap (λ cs. option_and_then (λ u. room_after_all (entries_of c.args.known.now) u (c.args.levels - 1) (components_view cs))
    (room_in c.in-Function.close c.args.tokens c.args.levels)) c.as_slice-else-is_var_type.ensures
    ∙ replaced_function (entries_of c.args.known.now) c.args.tokens c.args.levels (component_view c.args.c.now) c.in-Function.head
    (components_view c.in-Function.contents) c.in-Function.close
    (view_function c.args.c.now c.in-Function.head c.in-Function.contents c.in-Function.close c.in-Function.is)
    (sym c.is_var_type.ensures ∙ c.if-is_var_type.false))

pub room_after_var-returns-in-Some-place_after_comma : goal.room_after_var-returns-in-Some-place_after_comma
room_after_var-returns-in-Some-place_after_comma t c =
    c.room_after_from.ensures
    ∙ ap (option_and_then (room_after c.args.tokens c.args.levels))
    (sym (var_by_fallback (entries_of c.args.known.now) (components_view c.args.contents.now)
    (Some (components_view (drop c.in-Some-place_after_comma.place c.args.contents.now)))
    (ap (λ o. option_map components_view (option_copied o)) (sym c.in-None.is) ∙ c.entry_in.ensures)
    (ap (option_map (λ p. components_view (drop p c.args.contents.now))) (sym c.in-Some-place_after_comma.is)
    ∙ c.place_after_comma.ensures.after)))

pub room_after_var-returns-in-None-place_after_comma : goal.room_after_var-returns-in-None-place_after_comma
room_after_var-returns-in-None-place_after_comma t c =
    ap (option_and_then (room_after c.args.tokens c.args.levels))
    (sym (var_by_fallback (entries_of c.args.known.now) (components_view c.args.contents.now) None
    (ap (λ o. option_map components_view (option_copied o)) (sym c.in-None.is) ∙ c.entry_in.ensures)
    (ap (option_map (λ p. components_view (drop p c.args.contents.now))) (sym c.in-None-place_after_comma.is)
    ∙ c.place_after_comma.ensures.after)))
