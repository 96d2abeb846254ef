-- The lines of a stream of bytes.
use Rattle.std.specs.Prelude.{◌≡◌, ℕ, ◌==◌, ◌||◌, List, [], ◌∷◌, length, Bool, false, if◌then◌else◌, nat_lt}
use Rattle.std.specs.List.{list_all}
use Rattle.stream_model.specs.declared.limits.TheConstants.{MAX_LINE}

-- the byte that ends a line
abbrev pub newline : ℕ
newline = 10

-- b before the first line, or as a line of its own where there is none
abbrev pub onto : ℕ → List (List ℕ) → List (List ℕ)
onto b [] = (b ∷ []) ∷ []
onto b (line ∷ lines) = (b ∷ line) ∷ lines

-- the lines of bytes: they are cut at each newline, and a rest of at least one byte is a line
abbrev pub lines : List ℕ → List (List ℕ)
lines [] = []
lines (b ∷ bytes) = if b == newline then [] ∷ lines bytes else onto b (lines bytes)

-- none of the bytes is a newline
abbrev pub IsUnbroken : List ℕ → Type 0
IsUnbroken [] = Unit {0}
IsUnbroken (b ∷ bytes) = (b == newline ≡ false) × IsUnbroken bytes

-- b before the first line, where there is one
abbrev pub onto_first : ℕ → List (List ℕ) → List (List ℕ)
onto_first b [] = []
onto_first b (line ∷ lines) = (b ∷ line) ∷ lines

-- the lines that end with a newline
abbrev pub whole_lines : List ℕ → List (List ℕ)
whole_lines [] = []
whole_lines (b ∷ bytes) =
    if b == newline then [] ∷ whole_lines bytes else onto_first b (whole_lines bytes)

-- a space, a tab or a carriage return
abbrev pub is_space : ℕ → Bool
is_space b = (b == 32) || ((b == 9) || (b == 13))

-- a line of spaces, tabs and carriage returns alone, or of no byte: it is passed over, unless it is
-- too long
abbrev pub is_blank : List ℕ → Bool
is_blank line = list_all is_space line

-- a line that is read past, whatever it holds
abbrev pub is_too_long : List ℕ → Bool
is_too_long line = nat_lt MAX_LINE (length line)
