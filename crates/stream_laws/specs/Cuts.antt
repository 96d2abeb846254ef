-- How a stream is cut into lines, as a relation.
use Rattle.std.specs.Prelude.{◌≡◌, ◌⊎◌, ℕ, ◌<◌, List, [], ◌∷◌, ◌++◌, length}
use Rattle.stream_model.specs.Lines.{newline, IsUnbroken}

-- the bytes are one line of at least one byte, and no other line comes after it
abbrev pub IsLastLine : List ℕ → List ℕ → List (List ℕ) → Type 0
IsLastLine bytes line others = (0 < length line) × (bytes ≡ line) × (others ≡ [])

-- Without lines there are no bytes. A first line has no newline in it, and stands before a newline and the bytes of
-- the other lines, or is the last line.
abbrev pub AreLines : List ℕ → List (List ℕ) → Type 0
AreLines bytes [] = bytes ≡ []
AreLines bytes (line ∷ others) =
    IsUnbroken line
    × (((rest : List ℕ) × (bytes ≡ line ++ newline ∷ rest) × AreLines rest others) ⊎ IsLastLine bytes line others)

-- the bytes are none, or the last of them is a newline
abbrev pub EndsLines : List ℕ → Type 0
EndsLines bytes = (bytes ≡ []) ⊎ ((front : List ℕ) × (bytes ≡ front ++ newline ∷ []))
