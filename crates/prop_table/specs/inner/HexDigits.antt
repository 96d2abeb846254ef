-- Colours of pairs of hex digits.
use Rattle.std.specs.Prelude.{ℕ, ◌&&◌, if◌then◌else◌, Option, Some, None}
use Rattle.css_model.specs.Classes.{is_hex_digit}
use Rattle.value_model.specs.Colors.{of_two, rgba}
use Rattle.value_model.specs.declared.color.Rgba.{Rgba}

-- the number that two characters write, if they are hex digits
abbrev pub component : ℕ → ℕ → Option ℕ
component high low = if is_hex_digit high && is_hex_digit low then Some (of_two high low) else None

-- the colour of these components, if each of them is there
abbrev pub whole : (red green blue alpha : Option ℕ) → Option Rgba
whole (Some r) (Some g) (Some b) (Some a) = Some (rgba r g b a)
whole red green blue alpha = None
