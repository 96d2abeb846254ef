use Rattle.std.proofs.Common.{◌≡◌, drop}
use Rattle.css_tokens.specs.Nested.{components_view}
use Rattle.custom_props.specs.inner.Rooms.{room_after}
use Rattle.custom_props.proofs.rooms.+rooms.Given as goal

-- what may follow the rest, after those so far, may follow all
abbrev pub invariant-room_after-loop-c : goal.invariant-room_after-loop-c
invariant-room_after-loop-c l =
    room_after l.left l.levels (components_view (drop l.c-index l.components))
    ≡ room_after l.tokens l.levels (components_view l.components)
