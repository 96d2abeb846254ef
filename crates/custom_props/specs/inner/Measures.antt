-- How many tokens may still follow what stands in place of component values.
use Rattle.std.specs.Prelude.{ℕ, Option, option_and_then}
use Rattle.css_model.specs.Components.{Components}
use Rattle.custom_model.specs.Substitution.{Entries, replacement_of_all}
use Rattle.custom_props.specs.inner.Rooms.{room_after}

-- where so many tokens and levels may be
abbrev pub room_after_all : Entries → (tokens levels : ℕ) → Components → Option ℕ
room_after_all entries tokens levels cs =
    option_and_then (room_after tokens levels) (replacement_of_all entries cs)
