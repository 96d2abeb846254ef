use Rattle.std.proofs.Common.{◌∙◌, ◌-◌, ◌+◌, ap, sym, drop, option_and_then}
use Rattle.css_tokens.specs.Nested.{component_view, components_view}
use Rattle.custom_props.specs.inner.Rooms.{room_after, room_in}
use Rattle.custom_props.proofs.ComponentViews.{end_view, next_view, view_block, view_function, view_one}
use Rattle.custom_props.proofs.RoomSteps.{one_block, one_function, one_token, room_ends, room_goes, room_stops}
use Rattle.custom_props.proofs.rooms.+rooms.Goals as goal

pub room_after-returns-in-None : goal.room_after-returns-in-None
room_after-returns-in-None t c =
    room_stops c.args.levels c.args.tokens c.loop-c.left (components_view c.args.components.now)
    (components_view (drop c.loop-c.c-index c.args.components.now))
    (components_view (drop (c.loop-c.c-index + 1) c.args.components.now)) (component_view c.c-item.result)
    c.loop-c.invariant
    (next_view c.args.components.now c.loop-c.c-index c.c-item.result c.loop-c-test.true c.c-item.is)
    (sym c.in-None.is ∙ c.room_after_one.ensures)

pub room_after-loop-c-preserved : goal.room_after-loop-c-preserved
room_after-loop-c-preserved t c =
    room_goes c.args.levels c.args.tokens c.loop-c.left c.in-Some.room (components_view c.args.components.now)
    (components_view (drop c.loop-c.c-index c.args.components.now))
    (components_view (drop (c.loop-c.c-index + 1) c.args.components.now)) (component_view c.c-item.result)
    c.loop-c.invariant
    (next_view c.args.components.now c.loop-c.c-index c.c-item.result c.loop-c-test.true c.c-item.is)
    (sym c.in-Some.is ∙ c.room_after_one.ensures)

pub room_after-returns : goal.room_after-returns
room_after-returns t c =
    room_ends c.args.levels c.args.tokens c.loop-c.left (components_view c.args.components.now)
    (components_view (drop c.loop-c.c-index c.args.components.now)) c.loop-c.invariant
    (end_view c.args.components.now c.loop-c.c-index c.loop-c-test.false)

pub room_after_one-returns-in-One : goal.room_after_one-returns-in-One
room_after_one-returns-in-One t c =
    c.room_after_token.ensures
    ∙ one_token c.args.tokens c.args.levels (component_view c.args.c.now) c.in-One.field-0
    (view_one c.args.c.now c.in-One.field-0 c.in-One.is)

pub room_after_one-returns-in-Block : goal.room_after_one-returns-in-Block
room_after_one-returns-in-Block t c =
    c.room_after_pair.ensures
    ∙ (ap (λ cs. option_and_then (λ u. room_after u (c.args.levels - 1) (components_view cs))
    (room_in c.in-Block.close c.args.tokens c.args.levels)) c.as_slice.ensures
    ∙ one_block c.args.tokens c.args.levels (component_view c.args.c.now) c.in-Block.field-0
    (components_view c.in-Block.contents) c.in-Block.close
    (view_block c.args.c.now c.in-Block.field-0 c.in-Block.contents c.in-Block.close c.in-Block.is))

pub room_after_one-returns-in-Function : goal.room_after_one-returns-in-Function
room_after_one-returns-in-Function t c =
    c.room_after_pair-in-Function.ensures
    ∙ (ap (λ cs. option_and_then (λ u. room_after u (c.args.levels - 1) (components_view cs))
    (room_in c.in-Function.close c.args.tokens c.args.levels)) c.as_slice-in-Function.ensures
    ∙ one_function c.args.tokens c.args.levels (component_view c.args.c.now) c.in-Function.field-0
    (components_view c.in-Function.contents) c.in-Function.close
    (view_function c.args.c.now c.in-Function.field-0 c.in-Function.contents c.in-Function.close c.in-Function.is))
