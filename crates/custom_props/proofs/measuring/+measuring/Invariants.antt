use Rattle.std.proofs.Common.{◌≡◌, drop}
use Rattle.css_tokens.specs.Nested.{components_view}
use Rattle.custom_props.specs.inner.Entries.{entries_of}
use Rattle.custom_props.specs.inner.Measures.{room_after_all}
use Rattle.custom_props.proofs.measuring.+measuring.Given as goal

-- what may follow the rest, after those so far, may follow all
abbrev pub invariant-room_after_from-loop-place : goal.invariant-room_after_from-loop-place
invariant-room_after_from-loop-place l =
    room_after_all (entries_of l.known) l.left l.levels (components_view (drop l.place l.components))
    ≡ room_after_all (entries_of l.known) l.tokens l.levels (components_view (drop l.start l.components))
