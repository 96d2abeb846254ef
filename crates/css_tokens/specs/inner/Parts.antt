-- The part of the definition that a part is, and the one in front of a text.
use Rattle.std.specs.Prelude.{ℕ, ◌<◌, ◌==◌, ◌&&◌, not, [], ◌∷◌, Option, Some, None, Bool, if◌then◌else◌}
use Rattle.css_model.specs.declared.place.Place.{Place}
use Rattle.css_model.specs.declared.place.Place.TheVariants.{InString}
use Rattle.css_model.specs.Classes.{Text, backslash}
use Rattle.css_model.specs.Parts as model
use Rattle.css_model.specs.Parts.{is_allowed, may_stand}
use Rattle.css_model.specs.inner.Fronts.{part_in}
use Rattle.css_tokens.specs.declared.escapes.Part.{Part}
use Rattle.css_tokens.specs.declared.escapes.Part.TheVariants.{Itself, Escaped, HexEscape, EscapedNewline, EscapeAtEnd}

abbrev pub part_view : Part → model.Part
part_view (Itself c) = model.itself c
part_view (Escaped c) = model.escaped c
part_view (HexEscape digits blank) = model.hex_escape digits.now blank.now
part_view EscapedNewline = model.escaped_newline
part_view EscapeAtEnd = model.escape_at_end

-- the quote of a string is ASCII
abbrev pub HasAsciiQuote : Place → Type 0
HasAsciiQuote (InString quote) = quote < 128
HasAsciiQuote place = Unit {0}

-- the part in front, if it may stand at this place
abbrev pub front_part : Place → Text → Option model.Part
front_part place [] = None
front_part place (c ∷ cs) = if may_stand place (part_in c cs) then Some (part_in c cs) else None

abbrev pub is_backslash : ℕ → Bool
is_backslash c = c == backslash

-- a code point that is a part by itself, at this place
abbrev pub is_plain : Place → ℕ → Bool
is_plain place c = not (is_backslash c) && is_allowed place c
