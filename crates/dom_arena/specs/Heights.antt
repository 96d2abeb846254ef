-- Where the levels below a slot begin.
use Rattle.std.specs.Prelude.{ℕ, Option, Some, None}
use Rattle.dom_arena.specs.Slots.{target}
use Rattle.dom_arena.specs.declared.slot.Slot.{Slot}
use Rattle.dom_arena.specs.declared.slot.Content.{Content}
use Rattle.dom_arena.specs.declared.slot.Content.TheVariants.{Element, Chars, Free}

-- the first child of an element
abbrev pub first_of_element : Content → Option ℕ → Option ℕ
first_of_element (Element name attributes) first = first
first_of_element (Chars cs) first = None
first_of_element (Free next) first = None

abbrev pub first_below : Option Slot → Option ℕ
first_below None = None
first_below (Some s) = first_of_element s.content (target s.first)
